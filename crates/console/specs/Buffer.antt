-- Text in a lent buffer.
use Rattle.std.specs.Prelude.{ℕ, ◌-◌, ◌≤◌, min, ◌≡◌, List, ◌++◌, length, take, replicate}

-- a buffer of n bytes that holds a text: as much of the text as fits, and zeros behind it
unfoldable pub holding : ℕ → List ℕ → List ℕ
holding n text = take n text ++ replicate (n - length text) 0

-- n counts bytes at the front of s. The second part follows from the first; with both a caller may take that part with nothing to prove.
abbrev pub Counts : ℕ → List ℕ → Type 0
Counts n s = (n ≤ length s) × (n ≡ length (take n s))

-- b was filled with a text: now it is b', and r of its bytes are the text's
pub record Filled (b b' : List ℕ) (r : ℕ) (text : List ℕ) : Type 0 where
  pub bytes : b' ≡ holding (length b) text
  pub size : r ≡ min (length text) (length b)
  pub part : Counts r b'
