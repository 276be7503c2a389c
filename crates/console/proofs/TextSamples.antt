-- What the definitions say of worked examples, computed; the first four are document 01's own ("Answer").
use lib.ListN.{replicate}
use mathlib.Core.List.{[], ◌∷◌, ◌++◌}
use mathlib.Core.Path.{◌≡◌, refl}
use Rattle.console.specs.AnswerText.{field_text, type_text, first_line, line_of, line_at, lines_of, records_in, printed}
use Rattle.console.specs.Input.{is_whole, table_of, question_of}
use Rattle.console.specs.Text.{digits, decimal, hex_digit, hex_byte, hex_bytes}
use Rattle.ty.specs.Choose.{choose}

pub record Samples : Type 0 where
  -- the answer to 00 00 FF FF FF FF 00 02 06 00 00, with a diagnostics buffer of 65,535 bytes: `0 0 1 15 1`, `13 0 0`
  pub not_null_lem : printed 0 0 (21 ∷ []) 1 ((13 ∷ []) ++ replicate 65534 0)
      ≡ (48 ∷ 32 ∷ 48 ∷ 32 ∷ 49 ∷ 32 ∷ 49 ∷ 53 ∷ 32 ∷ 49 ∷ 10 ∷ []) ++ (49 ∷ 51 ∷ 32 ∷ 48 ∷ 32 ∷ 48 ∷ 10 ∷ [])
  -- the answer to no bytes: `8 0 0 - 0`
  pub nothing : printed 8 0 [] 0 (replicate 65535 0) ≡ 56 ∷ 32 ∷ 48 ∷ 32 ∷ 48 ∷ 32 ∷ 45 ∷ 32 ∷ 48 ∷ 10 ∷ []
  -- their parts
  pub not_null_parts : (table_of (0 ∷ 0 ∷ 255 ∷ 255 ∷ 255 ∷ 255 ∷ 0 ∷ 2 ∷ 6 ∷ 0 ∷ 0 ∷ []) ≡ [])
      × (question_of (0 ∷ 0 ∷ 255 ∷ 255 ∷ 255 ∷ 255 ∷ 0 ∷ 2 ∷ 6 ∷ 0 ∷ 0 ∷ []) ≡ 255 ∷ 255 ∷ 255 ∷ 255 ∷ 0 ∷ 2 ∷ 6 ∷ 0 ∷ 0 ∷ [])
  pub nothing_parts : (table_of [] ≡ []) × (question_of [] ≡ [])
  -- one byte is too few
  pub one_byte : (table_of (0 ∷ []) ≡ []) × (question_of (0 ∷ []) ≡ [])
  -- a table of two bytes, whole and one byte short
  pub two_byte_table : (table_of (2 ∷ 0 ∷ 7 ∷ 8 ∷ 9 ∷ []) ≡ 7 ∷ 8 ∷ []) × (question_of (2 ∷ 0 ∷ 7 ∷ 8 ∷ 9 ∷ []) ≡ 9 ∷ [])
  pub exactly : (table_of (2 ∷ 0 ∷ 7 ∷ 8 ∷ []) ≡ 7 ∷ 8 ∷ []) × (question_of (2 ∷ 0 ∷ 7 ∷ 8 ∷ []) ≡ [])
  pub one_short : (table_of (2 ∷ 0 ∷ 7 ∷ []) ≡ []) × (question_of (2 ∷ 0 ∷ 7 ∷ []) ≡ [])
  -- numbers: `0`, `100`, `256`, `65535`
  pub zero_text : decimal 0 ≡ 48 ∷ []
  pub hundred : decimal 100 ≡ 49 ∷ 48 ∷ 48 ∷ []
  pub three_digits : decimal 256 ≡ 50 ∷ 53 ∷ 54 ∷ []
  pub five_digits : decimal 65535 ≡ 54 ∷ 53 ∷ 53 ∷ 51 ∷ 53 ∷ []
  -- a type with letters, Nullable(Named 0x0AFF): `0c11ff0a`
  pub letters : type_text (12 ∷ 17 ∷ 255 ∷ 10 ∷ []) ≡ 48 ∷ 99 ∷ 49 ∷ 49 ∷ 102 ∷ 102 ∷ 48 ∷ 97 ∷ []
  -- a diagnostic whose numbers have two bytes, kind 17 at node 258 with number 65,535: `17 258 65535`
  pub two_byte_numbers : line_at (17 ∷ 2 ∷ 1 ∷ 255 ∷ 255 ∷ []) 0 ≡ 49 ∷ 55 ∷ 32 ∷ 50 ∷ 53 ∷ 56 ∷ 32 ∷ 54 ∷ 53 ∷ 53 ∷ 51 ∷ 53 ∷ 10 ∷ []

pub samples : Samples
unfolding choose digits decimal hex_digit hex_byte hex_bytes field_text type_text first_line line_of line_at lines_of records_in printed is_whole table_of question_of
samples = record {
  not_null_lem = refl;
  nothing = refl;
  not_null_parts = (refl, refl);
  nothing_parts = (refl, refl);
  one_byte = (refl, refl);
  two_byte_table = (refl, refl);
  exactly = (refl, refl);
  one_short = (refl, refl);
  zero_text = refl;
  hundred = refl;
  three_digits = refl;
  five_digits = refl;
  letters = refl;
  two_byte_numbers = refl;
}
