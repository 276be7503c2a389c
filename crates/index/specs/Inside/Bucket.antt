-- Buckets and digits of keys, by which the check of a table finds quickly whether a key was met before, and the lookups find a key's records. Records with one
-- key have one bucket and the same digits; nothing but speed depends on which they are.
use Rattle.std.specs.Prelude.{ℕ, zero, suc, ◌+◌, ◌*◌, ◌/◌, ◌%◌, ◌^◌, List, get_or, ltb, eqb}
use Rattle.ty.specs.Choose.{choose}
use Rattle.record.specs.Inside.Front.{front_of}
use Rattle.record.specs.Inside.HeadFault.{name_bytes}
use Rattle.record.specs.Inside.NameHash.{hash_of}
use Rattle.record.specs.Table.{Record}

-- of the key of a record of kind 2 or more; of kinds 2 and 3 the key is the first id alone
unfoldable pub key_bucket : ℕ → ℕ → ℕ → ℕ
key_bucket kind one two = choose (ltb kind 4) one ((one * 509 + two) % 65536)

unfoldable pub bucket_of : Record → ℕ
bucket_of r = choose (eqb (front_of r).kind 1) (hash_of (name_bytes r)) (key_bucket (front_of r).kind (front_of r).one (front_of r).two)

-- four bytes of a name from byte i on as a number, low byte first
unfoldable pub word_at : List ℕ → ℕ → ℕ
word_at name i = get_or name i 0 + 256 * get_or name (i + 1) 0 + 65536 * (get_or name (i + 2) 0 + 256 * get_or name (i + 3) 0)

-- a round of the digest takes a word to a number of 64 bits: its upper half and the word, times its lower half made odd; then the product's halves, the lower
-- half added to the upper one
unfoldable pub product_of : ℕ → ℕ → ℕ
product_of s w = (s / 4294967296 + w) % 4294967296 * (s % 4294967296 / 2 * 2 + 1)

unfoldable pub round_of : ℕ → ℕ → ℕ
round_of s w = (product_of s w / 4294967296 + s % 4294967296) % 4294967296 * 4294967296 + product_of s w % 4294967296

-- the digest of a name by k rounds, which take its six words again and again
unfoldable pub digest_of : ℕ → List ℕ → ℕ
digest_of zero name = 11400714819323198485
digest_of (suc k) name = round_of (digest_of k name) (word_at name (4 * k % 24))

-- the number that a digit is taken from: a name's first digit from its hash, the others from its digest; those of other records from the ids
unfoldable pub name_digits : List ℕ → ℕ → ℕ
name_digits name d = choose (eqb d 0) (hash_of name / 8192) (digest_of 15 name)

unfoldable pub key_digits : ℕ → ℕ → ℕ → ℕ
key_digits kind one two = one + 65536 * choose (ltb kind 4) 0 two

-- which way a search goes behind d records: for a name, one of eight; its own bytes tell names apart whose digests are the same. For other keys, one of two
unfoldable pub name_digit : List ℕ → ℕ → ℕ
name_digit name d = choose (ltb d 21) (name_digits name d / 2 ^ (3 * d) % 8) (get_or name (d % 24) 0 / 2 ^ (3 * (d / 24 % 3)) % 8)

unfoldable pub key_digit : ℕ → ℕ → ℕ → ℕ → ℕ
key_digit kind one two d = key_digits kind one two / 2 ^ (d % 32) % 2

unfoldable pub digit_of : Record → ℕ → ℕ
digit_of r = choose (eqb (front_of r).kind 1) (name_digit (name_bytes r)) (key_digit (front_of r).kind (front_of r).one (front_of r).two)
