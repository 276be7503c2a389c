-- Laws of a lent buffer with its count: nothing reported, and two runs of diagnostics.
use Prim.Native.Nat.{ℕ, ◌+◌, ◌*◌}
use lib.Dec.{leb}
use lib.ListN.{length, length-append}
use lib.Seq.{sets}
use mathlib.Core.List.{List, [], ◌∷◌, ◌++◌}
use mathlib.Core.Path.{◌≡◌, refl, sym, ap, ◌∙◌}
use native.Mathlib.Nat.{add-zero}
use native.Mathlib.Omega.{arith}
use Rattle.area.proofs.Diagnostics.{put_all_none, put_all-append}
use Rattle.area.specs.Diagnostic.{Diag, record_of, put_one, put_all}
use Rattle.area.specs.Reported.{reported}
use Rattle.area.specs.declared.reports.Reports.{Reports}
use Rattle.ty.specs.Bytes.{two_bytes}
use Rattle.ty.specs.Choose.{choose}

-- the same buffer with other bytes and another count
reports_path : (r : Reports) {b b' : List ℕ} {n n' : ℕ} → b ≡ b' → n ≡ n'
    → ◌≡◌ {A = Reports} (record { buf = record { ref_ptr = r.buf.ref_ptr; ghost_name = r.buf.ghost_name; now = b }; count = n })
    (record { buf = record { ref_ptr = r.buf.ref_ptr; ghost_name = r.buf.ghost_name; now = b' }; count = n' })
reports_path r e f = λ i. record { buf = record { ref_ptr = r.buf.ref_ptr; ghost_name = r.buf.ghost_name; now = e i }; count = f i }

pub reported_none : (r : Reports) → reported r [] ≡ r
unfolding reported
reported_none r = reports_path r (put_all_none r.buf.now r.count) (add-zero r.count)

-- one diagnostic, with the test whether its record fits
pub reported_one : (r : Reports) (kind node number : ℕ) → reported r (record { kind = kind; node = node; number = number } ∷ [])
    ≡ record {
      buf = record {
        ref_ptr = r.buf.ref_ptr;
        ghost_name = r.buf.ghost_name;
        now = choose (leb (5 * r.count + 5) (length r.buf.now)) (sets r.buf.now (5 * r.count) (kind ∷ (two_bytes node ++ two_bytes number))) r.buf.now;
      };
      count = r.count + 1;
    }
unfolding reported put_all put_one record_of
reported_one r kind node number = refl

pub reported_join : (r : Reports) (ds es : List Diag) → reported (reported r ds) es ≡ reported r (ds ++ es)
unfolding reported
reported_join r ds es = reports_path r (sym (put_all-append r.buf.now r.count ds es)) (omega (arith, length-append ds es))

pub reported_count : (r : Reports) (ds : List Diag) → (reported r ds).count ≡ r.count + length ds
unfolding reported
reported_count r ds = refl

pub reported_bytes : (r : Reports) (ds : List Diag) → (reported r ds).buf.now ≡ put_all r.buf.now r.count ds
unfolding reported
reported_bytes r ds = refl

-- one run behind another
pub reported_both : (r : Reports) {r₁ r₂ : Reports} (ds es : List Diag) → r₁ ≡ reported r ds → r₂ ≡ reported r₁ es → r₂ ≡ reported r (ds ++ es)
reported_both r ds es e f = f ∙ ap (λ (x : Reports). reported x es) e ∙ reported_join r ds es

-- how many there are then
pub reported_more : (r : Reports) {r₁ : Reports} (ds : List Diag) → r₁ ≡ reported r ds → r₁.count ≡ r.count + length ds
reported_more r ds e = ap (λ (x : Reports). x.count) e ∙ reported_count r ds
