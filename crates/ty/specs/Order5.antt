-- What order 5 claims of an Array's bytes. Document 02: "Type kind 22 is an Array with a flag of 1 and an 8-byte size of at least 2^32; smaller sizes keep
-- kind 14, so equal types are still equal bytes, and every size of the old width reads as it did .. All Array rules cover both kinds and are shown for either
-- width together." Each claim but `as_before` and the instances at the end is of both kinds.
use Rattle.std.specs.Prelude.{ℕ, ◌+◌, ◌-◌, ◌≤◌, ◌<◌, min, Bool, true, false, ◌&&◌, ◌||◌, List, length, drop, get_or, ltb, leb, eqb}
use Rattle.std.specs.Prelude.{◌≡◌, Option, None, Some, Result, Err}
use Rattle.ty.specs.Bytes.{Ty, kind_of, is_array_kind, is_array, size_width, inner_of}
use Rattle.ty.specs.Choose.{choose}
use Rattle.ty.specs.Kind.{array_kind, large_array_kind}
use Rattle.ty.specs.Read.{good_array, size_at, item_at, item_read, no_end, read_type, whole_read, large_size}
use Rattle.ty.specs.declared.read.Item.{Item}
use Rattle.ty.specs.declared.read.ItemFault.{ItemFault}
use Rattle.ty.specs.declared.read.ItemFault.TheVariants.{Broken, Out}
use Rattle.ty.specs.declared.read.TypeFault.TheVariants.{Malformed}

-- how many bytes stand before the type that an Array holds: its kind, its flag and its size
abbrev pub front_length : Ty → ℕ
front_length s = 2 + size_width (kind_of s)

-- the flag and the size that stand there are those of an Array
abbrev pub well_formed : Ty → Bool
well_formed s = good_array (kind_of s) (get_or s 1 0) (size_at s 0)

-- the size that an Array has, if it has one: "flag 1 means a size"
unfoldable pub array_size : Ty → Option ℕ
array_size s = choose (eqb (get_or s 1 0) 1) (Some (size_at s 0)) None

-- the kind for a size: "an 8-byte size of at least 2^32; smaller sizes keep kind 14"
unfoldable pub kind_for : Option ℕ → ℕ
kind_for None = array_kind
kind_for (Some n) = choose (leb large_size n) large_array_kind array_kind

-- each number of a list is a byte's
abbrev pub AllBytes : List ℕ → Type 0
AllBytes s = (i : ℕ) → get_or s i 0 < 256

-- all of s is a type
abbrev pub IsType : Ty → ℕ → Type 0
IsType s limit = (top : ℕ) × (e : Bool) × (read_type s limit ≡ whole_read (length s) top e)

-- where the body of an Array ends whose kind stands at `at`
abbrev pub body_end : List ℕ → ℕ → ℕ
body_end s at = at + 1 + (1 + size_width (get_or s at 0))

-- An Array of either kind whose kind stands at `at`, where only the first `end` bytes are examined: its flag and size are looked at where they lie wholly
-- inside, and one type follows them.
unfoldable pub array_at : List ℕ → ℕ → ℕ → Result Item ItemFault
array_at s end at =
    choose (ltb (end - (at + 1)) (1 + size_width (get_or s at 0))) (Err Out)
    (choose (good_array (get_or s at 0) (get_or s (at + 1) 0) (size_at s at)) (item_read (body_end s at) 1 0 false) (Err Broken))

-- the four bytes from `at` on are 0
abbrev pub four_zeros : List ℕ → ℕ → Bool
four_zeros s at = eqb (get_or s at 0) 0 && (eqb (get_or s (at + 1) 0) 0 && (eqb (get_or s (at + 2) 0) 0 && eqb (get_or s (at + 3) 0) 0))

-- the same of document 01's Array: "Array 14 a 1-byte flag and 4-byte size (flag 0 needs size 0, flag 1 means a size)"
unfoldable pub array_before : List ℕ → ℕ → ℕ → Result Item ItemFault
array_before s end at =
    choose (ltb (end - (at + 1)) 5) (Err Out)
    (choose (eqb (get_or s (at + 1) 0) 1 || (eqb (get_or s (at + 1) 0) 0 && four_zeros s (at + 2))) (item_read (at + 6) 1 0 false) (Err Broken))

-- of a type that begins as an Array, of whichever kind
pub record ArrayRead (s : Ty) (limit : ℕ) : Type 0 where
  -- a well-formed Array reads whole, with its length, where what stands behind its size does and both are within the limit
  pub reads : (n top : ℕ) (e : Bool) → well_formed s ≡ true → read_type (inner_of s) limit ≡ whole_read n top e → front_length s + n ≤ limit
      → read_type s limit ≡ whole_read (front_length s + n) top e
  -- and no other does
  pub no_other : (n top : ℕ) (e : Bool) → read_type s limit ≡ whole_read n top e
      → (well_formed s ≡ true) × (front_length s ≤ n) × (read_type (inner_of s) limit ≡ whole_read (n - front_length s) top e)
  -- "A kind 22 with a smaller size or another flag counts as malformed", as an Array with a wrong flag did, where its flag and size lie wholly inside the bytes
  -- that are examined
  pub malformed : well_formed s ≡ false → front_length s ≤ min (length s) limit → read_type s limit ≡ Err Malformed
  -- and where they do not, it is cut or without end
  pub outside : min (length s) limit < front_length s → read_type s limit ≡ Err (no_end (length s) limit 0 false)
  -- its inner type is what stands behind the size
  pub inner : inner_of s ≡ drop (front_length s) s

pub record BothWidths : Type 0 where
  pub array : (s : Ty) (limit : ℕ) → is_array s ≡ true → ArrayRead s limit
  -- the same wherever it stands in a type: a body that does not lie wholly inside the bytes that are examined is not looked at
  pub inside : (s : List ℕ) (end at : ℕ) → at < end → is_array_kind (get_or s at 0) ≡ true → item_at s end at ≡ array_at s end at
  -- "every size of the old width reads as it did"
  pub as_before : (s : List ℕ) (end at : ℕ) → at < end → get_or s at 0 ≡ array_kind → item_at s end at ≡ array_before s end at
  -- "equal types are still equal bytes": a size has no two spellings, as two Arrays with the same size and the same element are the same bytes
  pub one_spelling : (s t : Ty) (limit : ℕ) → AllBytes s → AllBytes t → is_array s ≡ true → is_array t ≡ true → IsType s limit → IsType t limit
      → array_size s ≡ array_size t → inner_of s ≡ inner_of t → s ≡ t
  -- "smaller sizes keep kind 14": an Array has the kind for its size
  pub by_size : (s : Ty) (limit : ℕ) → AllBytes s → is_array s ≡ true → IsType s limit → kind_of s ≡ kind_for (array_size s)
  -- each width's instance: four bytes of size put the element behind six bytes, and eight put it behind ten
  pub four : (s : Ty) → kind_of s ≡ array_kind → (front_length s ≡ 6) × (inner_of s ≡ drop 6 s)
  pub eight : (s : Ty) → kind_of s ≡ large_array_kind → (front_length s ≡ 10) × (inner_of s ≡ drop 10 s)
  pub reads_four : (s : Ty) (limit n top : ℕ) (e : Bool) → kind_of s ≡ array_kind → well_formed s ≡ true
      → read_type (drop 6 s) limit ≡ whole_read n top e → 6 + n ≤ limit → read_type s limit ≡ whole_read (6 + n) top e
  pub reads_eight : (s : Ty) (limit n top : ℕ) (e : Bool) → kind_of s ≡ large_array_kind → well_formed s ≡ true
      → read_type (drop 10 s) limit ≡ whole_read n top e → 10 + n ≤ limit → read_type s limit ≡ whole_read (10 + n) top e
