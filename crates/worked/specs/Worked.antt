-- The worked cases of the requirements, from the bytes of a sheet on: one list under a single claim.
use Prim.Native.Char.{code}
use Prim.Native.String.{String, [] as []ˢ, ◌∷◌ as ◌∷ˢ◌}
use Rattle.std.specs.Prelude.{ℕ, ◌≡◌, refl, Bool, true, false, List, [], ◌∷◌, T}
use Rattle.std.proofs.Common.{sym, subst}
use Rattle.std.proofs.Math.Option.{some}
use Rattle.rules.specs.Slots.{some_below, slots, list_of, sum}
use Rattle.rules.specs.Joined.{through}
use Rattle.rules.specs.Lines.{CatalogueLine, C, X, OptionLine, OrderingLine, Lines}
use Rattle.rules.specs.Subscription.{subscription}
use Rattle.rules.specs.Relaxation.{kept_by_slot, value, value_of}
use Rattle.rules.specs.Decisions.{Decision, Open, Kept, Dropped, decided_by_slot, all_open}
use Rattle.rules.specs.KnownBefore.{ordering_kept, option_kept, known_from_the_start, known_before}
use Rattle.rules.specs.Forced.{option_dropped, ordering_dropped, contradiction, forced_option, forced_ordering, forced}
use Rattle.rules.specs.Limits.{M, K, D, clash, A, B, E, whole_lower, whole_upper, option_kept_lower, option_kept_upper, option_dropped_lower, option_dropped_upper, ordering_kept_lower, ordering_kept_upper, ordering_dropped_lower, ordering_dropped_upper}
use Rattle.rules.specs.Sequence.{precedes, without, SequenceOf}
use Rattle.rules.specs.Best.{BestOf}
use Rattle.rules.specs.Results.{Limit, no_limit, Limits, option_limit, ordering_limit, limits_of, lacks_an_option, acyclic, is_relaxation, is_consistent, smallest_ready, placed, numbers_in_sequence, sequence_of_choice, first_best, best_of, best_value, answer_at_nought}
use Rattle.rules.specs.laws.Proper.{number_again, good_ends, is_proper, proper_out}
use Rattle.rules.proofs.laws.Sequence.{sequence_of_choice_is}
use Rattle.rules.proofs.laws.Best.{best_of_is_best}
use Rattle.sheet.specs.Answer.{number_of}
use Rattle.sheet.specs.Lines.{lines_of}
use Rattle.sheet.specs.declared.answer.Answer.{Answer}
use Rattle.sheet.specs.declared.answer.Answer.TheVariants.{Accepted, Refused}
use Rattle.lines.specs.Lines.{read_lines}
use Rattle.reader.specs.Read.{read_sheet, read_body, read_trailed}
use Rattle.shape.specs.LineText.{digits, decimal}
use Rattle.listing.specs.Listing.{each}
use Rattle.report.specs.Report.{answer_text, report_of}

-- ---- what a case claims
pub data Case : Type 0 where
  -- this text is refused with this number, line and column
  refused : String → (number line column : ℕ) → Case
  -- this text is accepted
  accepted : String → Case
  -- and the best relaxation keeps these items, has this value and this sequence
  best : String → (keeps : List Bool) → (value : ℕ) → (sequence : List ℕ) → Case
  -- and, so decided, it has these limits
  limits : String → List Decision → Limits → Case
  -- this is the whole output for this text
  prints : String → String → Case

abbrev pub bytes : String → List ℕ
bytes []ˢ = []
bytes (c ∷ˢ s) = code c ∷ bytes s

abbrev pub answer_to : String → Answer
answer_to text = (read_sheet (bytes text)).answer

abbrev pub lines_in : String → Lines
lines_in text = lines_of (read_sheet (bytes text)).sheet

-- The number, the line and the column of a refusal.
abbrev pub shown : Answer → List ℕ
shown Accepted = []
shown (Refused p k) = number_of k ∷ p.line ∷ p.column ∷ []

pub record BestIs (s : Lines) (keeps : List Bool) (value : ℕ) (sequence : List ℕ) : Type 0 where
  pub best : BestOf s keeps
  pub worth : value_of s keeps ≡ value
  pub in_sequence : SequenceOf s keeps sequence

abbrev pub Holds : Case → Type 0
Holds (refused text number line column) = shown (answer_to text) ≡ number ∷ line ∷ column ∷ []
Holds (accepted text) = answer_to text ≡ Accepted
Holds (best text keeps value sequence) = (answer_to text ≡ Accepted) × BestIs (lines_in text) keeps value sequence
Holds (limits text d l) = (answer_to text ≡ Accepted) × (limits_of (lines_in text) d ≡ l)
Holds (prints text output) = report_of (bytes text) ≡ bytes output

abbrev pub All : (Case → Type 0) → List Case → Type 0
All P [] = Unit {0}
All P (c ∷ l) = P c × All P l

-- ---- the cases
abbrev from_to : ℕ → ℕ → ℕ → ℕ → Limit
from_to a b c d = record { kept_lower = a; kept_upper = b; dropped_lower = c; dropped_upper = d }

abbrev pub sheet_P : String
sheet_P = "C 3 1\nX 2 4\nF 1 5\nF 2 3\nF 3 4\nF 4 2\nU 1 3 6\nU 2 1 1\nT 3 7 9\n"

abbrev pub cases : List Case
cases =
    -- "Sheet P … The whole output"; "`T 1 1 1`: accepted, prints `V 0 0`"; and a refusal.
    prints sheet_P "V 13 13\nS 1 2\nS 2 3\nS 3 1\nD 4\nR 1 3\n" ∷
    prints "T 1 1 1\n" "V 0 0\n" ∷
    prints "F 05 1\nT 1 2 2\n" "E 4 1 4\n" ∷
    -- "Sheet P: best value 13."
    best sheet_P (true ∷ true ∷ true ∷ false ∷ false ∷ true ∷ []) 13 (2 ∷ 3 ∷ 1 ∷ []) ∷
    -- "Sheet P, all open: `U 1 3` is forced out, whole limits 0 and 15; option 2 kept 3 to 13, dropped 0 to 11; option 4 kept 2 to 11, dropped 0 to 13."
    limits sheet_P (all_open 6) (record {
      contradiction = false;
      decisions = Open ∷ Open ∷ Open ∷ Open ∷ Dropped ∷ Open ∷ [];
      lower = 0;
      upper = 15;
      options = from_to 5 15 0 9 ∷ from_to 3 13 0 11 ∷ from_to 4 15 0 11 ∷ from_to 2 11 0 13 ∷ [];
      orderings = no_limit ∷ from_to 9 13 0 14 ∷ [];
    }) ∷
    -- Options 2 and 4 exclude each other: keeping both is a contradiction.
    limits sheet_P (Open ∷ Kept ∷ Open ∷ Kept ∷ Open ∷ Open ∷ []) (record {
      contradiction = true;
      decisions = all_open 6;
      lower = 0;
      upper = 0;
      options = no_limit ∷ no_limit ∷ no_limit ∷ no_limit ∷ [];
      orderings = no_limit ∷ no_limit ∷ [];
    }) ∷
    -- "`T 1 1 1`: accepted, prints `V 0 0`. Empty input: 2. `T 1 1 2`: 3 at 1, 1."
    best "T 1 1 1\n" [] 0 [] ∷
    refused "" 2 0 0 ∷
    refused "T 1 1 2\n" 3 1 1 ∷
    -- "`X 1 2`, `F 2 5`, `F 1 5`, `T 2 4 4`: keeps 2."
    best "X 1 2\nF 2 5\nF 1 5\nT 2 4 4\n" (true ∷ false ∷ []) 5 (2 ∷ []) ∷
    -- "`C 1 2`, `C 2 3`, `C 3 1`, `F 1 5`, `F 2 4`, `F 3 3`, `T 4 7 7`: value 9, sequence 1, 2."
    best "C 1 2\nC 2 3\nC 3 1\nF 1 5\nF 2 4\nF 3 3\nT 4 7 7\n" (true ∷ true ∷ false ∷ []) 9 (1 ∷ 2 ∷ []) ∷
    -- "`F 1 1`, `F 2 1`, `U 1 2 4`, `U 2 1 4`, `T 1 3 5`: value 6, first ordering kept."
    best "F 1 1\nF 2 1\nU 1 2 4\nU 2 1 4\nT 1 3 5\n" (true ∷ true ∷ true ∷ false ∷ []) 6 (1 ∷ 2 ∷ []) ∷
    -- "`C 1 2`, `C 2 3`, `F 1 5`, `F 3 5`, `U 3 1 2`, `T 3 5 6`: value 12, sequence 3, 1."
    best "C 1 2\nC 2 3\nF 1 5\nF 3 5\nU 3 1 2\nT 3 5 6\n" (true ∷ true ∷ true ∷ []) 12 (3 ∷ 1 ∷ []) ∷
    -- "`F 9 0`, `T 1 2 2`: option 9 kept, value 0."
    best "F 9 0\nT 1 2 2\n" (true ∷ []) 0 (9 ∷ []) ∷
    -- "Each followed by `T 1 2 2`. `F 05 1`: 4 at 1, 4. `F 5`: 4 at 1, 4 (the line end). `F 123456 1`: 4 at 1, 8."
    refused "F 05 1\nT 1 2 2\n" 4 1 4 ∷
    refused "F 5\nT 1 2 2\n" 4 1 4 ∷
    refused "F 123456 1\nT 1 2 2\n" 4 1 8 ∷
    -- "Followed by `T 1 2 2`, `F 251 1`: 5 at 1, 3; `F 250 9999` passes. `C 7 7`, `T 2 2 2`: 8 at 1, 5."
    refused "F 251 1\nT 1 2 2\n" 5 1 3 ∷
    accepted "F 250 9999\nT 1 2 2\n" ∷
    refused "C 7 7\nT 2 2 2\n" 8 1 5 ∷
    -- "Keeping heavy options first: `X 1 2`, `X 1 3` with weights 5, 3, 3 has best value 6, not 5."
    best "X 1 2\nX 1 3\nF 1 5\nF 2 3\nF 3 3\nT 3 6 6\n" (false ∷ true ∷ true ∷ []) 6 (2 ∷ 3 ∷ []) ∷
    []

-- ---- why they hold: what is computed is what is claimed, by the laws about `best_of` and `sequence_of_choice`
record BestComputed (text : String) (keeps : List Bool) (value : ℕ) (sequence : List ℕ) : Type 0 where
  reads : answer_to text ≡ Accepted
  lines : Lines
  has : lines_in text ≡ lines
  proper : T (is_proper lines)
  best : best_of lines ≡ keeps
  worth : value_of lines keeps ≡ value
  places : sequence_of_choice lines keeps ≡ some sequence

abbrev Computed : Case → Type 0
Computed (refused text number line column) = Holds (refused text number line column)
Computed (accepted text) = Holds (accepted text)
Computed (best text keeps value sequence) = BestComputed text keeps value sequence
Computed (limits text d l) = (answer_to text ≡ Accepted) × ((s : Lines) × (lines_in text ≡ s) × (limits_of s d ≡ l))
Computed (prints text output) = Holds (prints text output)

holds : (c : Case) → Computed c → Holds c
holds (refused text number line column) e = e
holds (accepted text) e = e
holds (best text keeps value sequence) e = (
  e.reads,
  subst (λ s. BestIs s keeps value sequence) (sym e.has) (record {
    best = subst (BestOf e.lines) e.best (best_of_is_best e.lines);
    worth = e.worth;
    in_sequence = (sequence_of_choice_is e.lines keeps (proper_out e.lines e.proper) sequence).0 e.places;
  }),
)
holds (limits text d l) e = (e.0, subst (λ s. limits_of s d ≡ l) (sym e.1.1) e.1.2)
holds (prints text output) e = e

all_hold : (l : List Case) → All Computed l → All Holds l
all_hold [] e = tt
all_hold (c ∷ l) (e, es) = (holds c e, all_hold l es)

abbrev F : ℕ → ℕ → OptionLine
F a w = record { number = a; weight = w }

abbrev U : ℕ → ℕ → ℕ → OrderingLine
U a b w = record { first = a; second = b; weight = w }

abbrev of_lines : List CatalogueLine → List OptionLine → List OrderingLine → Lines
of_lines c f u = record { catalogue = c; options = f; orderings = u }

abbrev lines_P : Lines
lines_P = of_lines (C 3 1 ∷ X 2 4 ∷ []) (F 1 5 ∷ F 2 3 ∷ F 3 4 ∷ F 4 2 ∷ []) (U 1 3 6 ∷ U 2 1 1 ∷ [])

all_computed : All Computed cases
unfolding read_lines read_body read_trailed read_sheet lines_of some_below slots list_of sum through subscription kept_by_slot value value_of decided_by_slot ordering_kept option_kept known_from_the_start known_before option_dropped ordering_dropped contradiction forced_option forced_ordering forced M K D clash A B E whole_lower whole_upper option_kept_lower option_kept_upper option_dropped_lower option_dropped_upper ordering_kept_lower ordering_kept_upper ordering_dropped_lower ordering_dropped_upper precedes without option_limit ordering_limit limits_of lacks_an_option acyclic is_relaxation is_consistent smallest_ready placed numbers_in_sequence sequence_of_choice first_best best_of best_value answer_at_nought digits decimal each answer_text report_of number_again good_ends is_proper
all_computed = (
  refl,
  (
    refl,
    (
      refl,
      (
        record { reads = refl; lines = lines_P; has = refl; proper = tt; best = refl; worth = refl; places = refl },
        (
          (refl, (lines_P, refl, refl)),
          (
            (refl, (lines_P, refl, refl)),
            (
              record { reads = refl; lines = (of_lines [] [] []); has = refl; proper = tt; best = refl; worth = refl; places = refl },
              (
                refl,
                (
                  refl,
                  (
                    record { reads = refl; lines = (of_lines (X 1 2 ∷ []) (F 2 5 ∷ F 1 5 ∷ []) []); has = refl; proper = tt; best = refl; worth = refl; places = refl },
                    (
                      record { reads = refl; lines = (of_lines (C 1 2 ∷ C 2 3 ∷ C 3 1 ∷ []) (F 1 5 ∷ F 2 4 ∷ F 3 3 ∷ []) []); has = refl; proper = tt; best = refl; worth = refl; places = refl },
                      (
                        record { reads = refl; lines = (of_lines [] (F 1 1 ∷ F 2 1 ∷ []) (U 1 2 4 ∷ U 2 1 4 ∷ [])); has = refl; proper = tt; best = refl; worth = refl; places = refl },
                        (
                          record { reads = refl; lines = (of_lines (C 1 2 ∷ C 2 3 ∷ []) (F 1 5 ∷ F 3 5 ∷ []) (U 3 1 2 ∷ [])); has = refl; proper = tt; best = refl; worth = refl; places = refl },
                          (
                            record { reads = refl; lines = (of_lines [] (F 9 0 ∷ []) []); has = refl; proper = tt; best = refl; worth = refl; places = refl },
                            (
                              refl,
                              (
                                refl,
                                (
                                  refl,
                                  (
                                    refl,
                                    (
                                      refl,
                                      (
                                        refl,
                                        (
                                          record { reads = refl; lines = (of_lines (X 1 2 ∷ X 1 3 ∷ []) (F 1 5 ∷ F 2 3 ∷ F 3 3 ∷ []) []); has = refl; proper = tt; best = refl; worth = refl; places = refl },
                                          tt,
                                        ),
                                      ),
                                    ),
                                  ),
                                ),
                              ),
                            ),
                          ),
                        ),
                      ),
                    ),
                  ),
                ),
              ),
            ),
          ),
        ),
      ),
    ),
  ),
)

-- THE ONE CLAIM.
pub cases_hold : All Holds cases
cases_hold = all_hold cases all_computed
