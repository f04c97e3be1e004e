-- What is handed over: a record, or one that is refused.
use Rattle.std.specs.Prelude.{ℕ, ◌≡◌, refl, Bool, true, false, cond, List, eqb, length}
use Rattle.std.proofs.Common.{eq-eqb, ne_eqb}
use Rattle.rules.specs.laws.Slots.{length_list_of}
use Rattle.sheet.specs.IsRecorded.{is_recorded}
use Rattle.sheet.specs.Recorded.{Lengths}
use Rattle.sheet.specs.declared.sheet.Sheet.{Sheet}
use Rattle.fields.specs.Record.{record_of, record_size, no_record, record_in}

-- A record is what its fields are.
pub same_sheet : (s : Sheet) {c o r : ℕ} {letters befores afters numbers weights firsts seconds ordering_weights : List ℕ}
    → c ≡ s.catalogue_lines → o ≡ s.option_count → r ≡ s.ordering_count → letters ≡ s.letters → befores ≡ s.befores → afters ≡ s.afters
    → numbers ≡ s.numbers → weights ≡ s.weights → firsts ≡ s.firsts → seconds ≡ s.seconds → ordering_weights ≡ s.ordering_weights
    → ◌≡◌ {A = Sheet} (record {
      catalogue_lines = c;
      option_count = o;
      ordering_count = r;
      letters = letters;
      befores = befores;
      afters = afters;
      numbers = numbers;
      weights = weights;
      firsts = firsts;
      seconds = seconds;
      ordering_weights = ordering_weights;
    }) s
same_sheet s a b c d e f g h i j k = rw (a, b, c, d, e, f, g, h, i, j, k) refl

-- 12: bytes of another number than a record has.
pub wrong_size_refused : (bytes : List ℕ) → (length bytes ≡ record_size → ⊥) → is_recorded (record_in bytes) ≡ false
unfolding record_in is_recorded
wrong_size_refused bytes h = rw (ne_eqb (length bytes) record_size h) refl

-- ---- what is handed over has the lengths of a record, whatever its bytes are
pub record_lengths : (bytes : List ℕ) → Lengths (record_in bytes)
unfolding record_in
record_lengths bytes = go (eqb (length bytes) record_size)
  where
    go : (b : Bool) → Lengths (cond b (record_of bytes) no_record)
    go true = record {
      letters = length_list_of 512 _;
      befores = length_list_of 512 _;
      afters = length_list_of 512 _;
      numbers = length_list_of 32 _;
      weights = length_list_of 32 _;
      firsts = length_list_of 64 _;
      seconds = length_list_of 64 _;
      ordering_weights = length_list_of 64 _;
    }
    go false = record { letters = refl; befores = refl; afters = refl; numbers = refl; weights = refl; firsts = refl; seconds = refl; ordering_weights = refl }

-- ---- the two ways out of `record_in`
pub handed_record : (bytes : List ℕ) {s : Sheet} → length bytes ≡ record_size → s ≡ record_of bytes → s ≡ record_in bytes
unfolding record_in
handed_record bytes h e = rw (eq-eqb (length bytes) record_size h) e

pub handed_no_record : (bytes : List ℕ) {s : Sheet} → (length bytes ≡ record_size → ⊥) → s ≡ no_record → s ≡ record_in bytes
unfolding record_in
handed_no_record bytes h e = rw (ne_eqb (length bytes) record_size h) e
