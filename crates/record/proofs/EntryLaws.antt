-- The definitions go entry by entry, as a test of all entries does.
use Rattle.std.specs.Prelude.{ℕ, suc, zero, ◌+◌, ◌≡◌, Bool, ◌&&◌, List, [], ◌∷◌, eqb, get_or, take}
use Rattle.std.specs.List.{list_all, range_with_len}
use Rattle.std.proofs.Common.{refl, ap, ◌∙◌}
use Rattle.std.proofs.Math.Bool.{and_assoc}
use Rattle.sheet.specs.Judge.{judge_catalogue_line, judge_option, judge_ordering}
use Rattle.sheet.specs.IsRecorded.{is_fine, is_letter, entry_numbers, catalogue_fine, options_fine, orderings_fine, all_zero}

pub rest_zero : (l : List ℕ) → list_all (λ x. eqb x 0) l ≡ all_zero l
unfolding all_zero
rest_zero [] = refl
rest_zero (x ∷ l) = ap (λ r. eqb x 0 && r) (rest_zero l)

abbrev pub fine_catalogue_entry : List ℕ → List ℕ → List ℕ → ℕ → Bool
fine_catalogue_entry letters befores afters i =
    is_letter (get_or letters i 0) && is_fine (judge_catalogue_line (entry_numbers (get_or befores i 0) (get_or afters i 0) 0))

abbrev pub fine_option : List ℕ → List ℕ → ℕ → Bool
fine_option numbers weights i = is_fine (judge_option (entry_numbers (get_or numbers i 0) (get_or weights i 0) 0) (take i numbers))

abbrev pub fine_ordering : List ℕ → List ℕ → List ℕ → List ℕ → ℕ → Bool
fine_ordering subscribed firsts seconds weights i =
    is_fine (judge_ordering (entry_numbers (get_or firsts i 0) (get_or seconds i 0) (get_or weights i 0)) subscribed (take i firsts) (take i seconds))

pub all_catalogue : (k i : ℕ) (letters befores afters : List ℕ)
    → list_all (fine_catalogue_entry letters befores afters) (range_with_len i k) ≡ catalogue_fine k i letters befores afters
unfolding catalogue_fine
all_catalogue zero i letters befores afters = refl
all_catalogue (suc k) i letters befores afters =
    ap (λ r. fine_catalogue_entry letters befores afters i && r) (all_catalogue k (i + 1) letters befores afters)
    ∙ and_assoc (is_letter (get_or letters i 0)) (is_fine (judge_catalogue_line (entry_numbers (get_or befores i 0) (get_or afters i 0) 0))) (catalogue_fine k (i + 1) letters befores afters)

pub all_options : (k i : ℕ) (numbers weights : List ℕ) → list_all (fine_option numbers weights) (range_with_len i k) ≡ options_fine k i numbers weights
unfolding options_fine
all_options zero i numbers weights = refl
all_options (suc k) i numbers weights = ap (λ r. fine_option numbers weights i && r) (all_options k (i + 1) numbers weights)

pub all_orderings : (k i : ℕ) (subscribed firsts seconds weights : List ℕ)
    → list_all (fine_ordering subscribed firsts seconds weights) (range_with_len i k) ≡ orderings_fine k i subscribed firsts seconds weights
unfolding orderings_fine
all_orderings zero i subscribed firsts seconds weights = refl
all_orderings (suc k) i subscribed firsts seconds weights =
    ap (λ r. fine_ordering subscribed firsts seconds weights i && r) (all_orderings k (i + 1) subscribed firsts seconds weights)
