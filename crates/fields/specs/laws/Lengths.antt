-- How many bytes the parts of a record have, and what single bytes are.
use Rattle.std.specs.Prelude.{ℕ, ◌*◌, ◌≡◌, refl, List, length, get_or}
use Rattle.std.proofs.Common.{sym, ◌∙◌, arith, ext_get_or}
use Rattle.rules.specs.laws.Slots.{length_list_of, getD_list_of}
use Rattle.entries.specs.laws.Parts.{parts_length}
use Rattle.fields.specs.Record.{twos_of, bytes_in}

pub twos_length : (n : ℕ) (l : List ℕ) → length (twos_of n l) ≡ 2 * n
twos_length n l = parts_length 2 n _ (λ j. refl)

pub bytes_length : (n : ℕ) (l : List ℕ) → length (bytes_in n l) ≡ n
bytes_length n l = length_list_of n _

pub bytes_are : (n : ℕ) (l : List ℕ) → length l ≡ n → bytes_in n l ≡ l
bytes_are n l h = ext_get_or 0 (bytes_in n l) l (length_list_of n _ ∙ sym h) (λ i k. getD_list_of n (λ j. get_or l j 0) 0 i (let q = bytes_length n l in omega arith))
