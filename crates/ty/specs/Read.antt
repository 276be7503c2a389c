-- Reading one type from the front of some bytes. Document 01, "Types as bytes" and, of what has no end, "Refused, and by whose doing"; of an Array's size
-- document 02, order 5.
use Rattle.std.specs.Prelude.{ℕ, zero, suc, ◌+◌, ◌-◌, ◌*◌, ◌^◌, min, max, Bool, false, not, ◌&&◌, ◌||◌, List, length, get_or, ltb, leb, eqb, Result, Ok, Err}
use Rattle.ty.specs.Choose.{choose}
use Rattle.ty.specs.Kind.{nullable_kind, list_kind, map_kind, named_kind, function_kind, type_var_kind, module_kind, error_kind, large_array_kind}
use Rattle.ty.specs.Bytes.{id_at, is_array_kind, size_width}
use Rattle.ty.specs.declared.read.TypeRead.{TypeRead}
use Rattle.ty.specs.declared.read.TypeFault.{TypeFault}
use Rattle.ty.specs.declared.read.TypeFault.TheVariants.{Cut, Malformed, Endless}
use Rattle.ty.specs.declared.read.Item.{Item}
use Rattle.ty.specs.declared.read.ItemFault.{ItemFault}
use Rattle.ty.specs.declared.read.ItemFault.TheVariants.{Broken, Out}

-- a type that ends before byte n; top is the highest id in it, 0 for none, and e says whether it has an Error
abbrev pub whole_read : ℕ → ℕ → Bool → Result TypeRead TypeFault
whole_read n top e = Ok (record { len = n; top = top; error = e })

-- a kind with its body, which ends before next, with c child types, the id i and e, whether it is Error
abbrev pub item_read : ℕ → ℕ → ℕ → Bool → Result Item ItemFault
item_read next c i e = Ok (record { next = next; children = c; id = i; error = e })

-- how many bytes of body a kind has: an Array's are its flag and its size
unfoldable pub body_length : ℕ → ℕ
body_length k =
    choose (is_array_kind k) (1 + size_width k)
    (choose (eqb k named_kind || eqb k module_kind) 2 (choose (eqb k type_var_kind) 4 (choose (eqb k function_kind) 1 0)))

-- Nullable, Pointer, Array and List hold one type
abbrev pub holds_one : ℕ → Bool
holds_one k = (leb nullable_kind k && leb k list_kind) || is_array_kind k

-- how many child types, c being the body's first byte: a Function's are its parameters and its result
unfoldable pub child_count : ℕ → ℕ → ℕ
child_count k c =
    choose (eqb k function_kind) (c + 1)
    (choose (eqb k map_kind) 2 (choose (holds_one k) 1 0))

-- the number in so many bytes from `at` on, low byte first
unfoldable pub number_at : ℕ → List ℕ → ℕ → ℕ
number_at zero s at = 0
number_at (suc width) s at = get_or s at 0 + 256 * number_at width s (at + 1)

-- the least size that needs eight bytes
abbrev pub large_size : ℕ
large_size = 2 ^ 32

-- an Array with the flag c and the size n: "flag 0 needs size 0, flag 1 means a size"; of kind 22 "a flag of 1 and an 8-byte size of at least 2^32"
abbrev pub good_array : ℕ → ℕ → ℕ → Bool
good_array k c n = choose (eqb k large_array_kind) (eqb c 1 && leb large_size n) (eqb c 1 || (eqb c 0 && eqb n 0))

-- a body that is not malformed: an Array's flag c and size n are an Array's, and a Function's count c is at most 16
abbrev pub good_body : ℕ → ℕ → ℕ → Bool
good_body k c n = (not (is_array_kind k) || good_array k c n) && (not (eqb k function_kind) || leb c 16)

-- the id i of a Named or a Module; of the other kinds 0, which is always defined
unfoldable pub id_in : ℕ → ℕ → ℕ
id_in k i = choose (eqb k named_kind || eqb k module_kind) i 0

-- a kind k with its body, which ends before next: the body's first byte is c, an Array's size is n, an id is i
unfoldable pub item_of : ℕ → ℕ → ℕ → ℕ → ℕ → Result Item ItemFault
item_of k c n i next = choose (good_body k c n) (item_read next (child_count k c) (id_in k i) (eqb k error_kind)) (Err Broken)

-- the size of the Array whose kind stands at `at`
abbrev pub size_at : List ℕ → ℕ → ℕ
size_at s at = number_at (size_width (get_or s at 0)) s (at + 2)

-- the kind with its body that stands at `at`, where only the first `end` bytes are examined; no kind is above 22
unfoldable pub item_at : List ℕ → ℕ → ℕ → Result Item ItemFault
item_at s end at =
    choose (leb end at) (Err Out)
    (choose (ltb large_array_kind (get_or s at 0)) (Err Broken)
    (choose (ltb (end - (at + 1)) (body_length (get_or s at 0))) (Err Out)
    (item_of (get_or s at 0) (get_or s (at + 1) 0) (size_at s at) (id_at s (at + 1)) (at + 1 + body_length (get_or s at 0)))))

-- no end in the first limit bytes: cut where the bytes themselves end before the limit, else without end
unfoldable pub no_end : ℕ → ℕ → ℕ → Bool → TypeFault
no_end len limit top e = choose (ltb len limit) Cut (Endless top e)

-- goes on behind an item
abbrev pub after : Result Item ItemFault → TypeFault → (ℕ → ℕ → ℕ → Bool → Result TypeRead TypeFault) → Result TypeRead TypeFault
after (Ok r) o k = k r.next r.children r.id r.error
after (Err Broken) o k = Err Malformed
after (Err Out) o k = Err o

-- `pending` types are still to be read from `at` on; top is the highest id so far, and e says whether an Error was met
unfoldable pub read_from : ℕ → List ℕ → ℕ → ℕ → ℕ → ℕ → Bool → Result TypeRead TypeFault
read_from zero s limit at pending top e = Err Malformed
read_from (suc f) s limit at pending top e =
    choose (eqb pending 0) (whole_read at top e)
    (after (item_at s (min (length s) limit) at) (no_end (length s) limit top e)
    (λ next c i e₁. read_from f s limit next (pending - 1 + c) (max top i) (e || e₁)))

-- One type from the front of s, of at most limit bytes. Each step takes at least a byte, so this many steps are enough.
unfoldable pub read_type : List ℕ → ℕ → Result TypeRead TypeFault
read_type s limit = read_from (suc (min (length s) limit)) s limit 0 1 0 false

-- the longest type in a table or a leaf
abbrev pub longest_type : ℕ
longest_type = 192
