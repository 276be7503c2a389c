-- What is in a lent buffer behind diagnostics, and how many were reported.
use Rattle.std.specs.Prelude.{List, length, ◌+◌}
use Rattle.area.specs.Diagnostic.{Diag, put_all}
use Rattle.area.specs.declared.reports.Reports.{Reports}

-- the same buffer, once several more have been reported
unfoldable pub reported : Reports → List Diag → Reports
reported r ds = record {
  buf = record { ref_ptr = r.buf.ref_ptr; ghost_name = r.buf.ghost_name; now = put_all r.buf.now r.count ds };
  count = r.count + length ds;
}
