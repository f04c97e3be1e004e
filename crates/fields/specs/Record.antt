-- A record as bytes: the counts, then the numbers of two bytes, then the single bytes, so that a struct of C with these fields has no gap.
use Rattle.std.specs.Prelude.{ℕ, ◌+◌, ◌*◌, ◌/◌, ◌%◌, cond, List, [], ◌∷◌, ◌++◌, eqb, length, get_or}
use Rattle.rules.specs.Slots.{list_of}
use Rattle.entries.specs.Parts.{parts}
use Rattle.sheet.specs.Sheet.{sized}
use Rattle.sheet.specs.declared.sheet.Sheet.{Sheet}

-- A number of two bytes, the lower one first.
abbrev pub two_at : List ℕ → ℕ → ℕ
two_at bytes at = get_or bytes at 0 + 256 * get_or bytes (at + 1) 0

-- n bytes from byte `at` on.
abbrev pub bytes_at : (n : ℕ) → List ℕ → ℕ → List ℕ
bytes_at n bytes at = list_of n (λ i. get_or bytes (at + i) 0)

-- n numbers of two bytes each.
abbrev pub twos_at : (n : ℕ) → List ℕ → ℕ → List ℕ
twos_at n bytes at = list_of n (λ i. two_at bytes (at + 2 * i))

-- The record that the bytes spell.
abbrev pub record_of : List ℕ → Sheet
record_of bytes = record {
  catalogue_lines = two_at bytes 0;
  option_count = two_at bytes 2;
  ordering_count = two_at bytes 4;
  weights = twos_at 32 bytes 6;
  ordering_weights = twos_at 64 bytes 70;
  letters = bytes_at 512 bytes 198;
  befores = bytes_at 512 bytes 710;
  afters = bytes_at 512 bytes 1222;
  numbers = bytes_at 32 bytes 1734;
  firsts = bytes_at 64 bytes 1766;
  seconds = bytes_at 64 bytes 1830;
}

abbrev pub record_size : ℕ
record_size = 1894

-- A record that no accepted sheet gives: more catalogue lines than a sheet may have.
abbrev pub no_record : Sheet
no_record = sized 513 0 0

-- The record that a caller hands over. Bytes of any other number are no record, and are refused as 12 like `no_record`.
unfoldable pub record_in : List ℕ → Sheet
record_in bytes = cond (eqb (length bytes) record_size) (record_of bytes) no_record

-- ---- and back
abbrev pub two_bytes : ℕ → List ℕ
two_bytes x = (x % 256) ∷ (x / 256) ∷ []

-- n numbers of two bytes each.
abbrev pub twos_of : (n : ℕ) → List ℕ → List ℕ
twos_of n l = parts n (λ i. two_bytes (get_or l i 0))

-- n single bytes.
abbrev pub bytes_in : (n : ℕ) → List ℕ → List ℕ
bytes_in n l = list_of n (λ i. get_or l i 0)

-- The counts and the weights.
abbrev pub head_of : Sheet → List ℕ
head_of s = two_bytes s.catalogue_lines ++ (two_bytes s.option_count ++ (two_bytes s.ordering_count ++ (twos_of 32 s.weights ++ twos_of 64 s.ordering_weights)))

-- The letters and the option numbers.
abbrev pub tail_of : Sheet → List ℕ
tail_of s = bytes_in 512 s.letters ++ (bytes_in 512 s.befores ++ (bytes_in 512 s.afters ++ (bytes_in 32 s.numbers ++ (bytes_in 64 s.firsts ++ bytes_in 64 s.seconds))))

-- The bytes that spell a record.
unfoldable pub bytes_of : Sheet → List ℕ
bytes_of s = head_of s ++ tail_of s
