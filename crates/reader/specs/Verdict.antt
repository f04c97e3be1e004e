-- The table of refusals as the requirements tell it: 1, 2, 3, then 6 by sections, then line by line, in a line first its shape
-- and then the rules in their order.
use Rattle.std.specs.Prelude.{ℕ, zero, suc, ◌+◌, ◌-◌, ◌≤◌, ◌<◌, true, ◌≡◌, List, [], ◌∷◌, ◌++◌, length, get_or}
use Rattle.shape.specs.Grammar.{Line, CouldBegin}
use Rattle.shape.specs.LineText.{line_text}
use Rattle.shape.specs.Number.{numbers_of}
use Rattle.shape.specs.Scan.{section_of}
use Rattle.shape.specs.Trailer.{line_ends, whole_lines}
use Rattle.shape.specs.declared.shape.Section.{Section}
use Rattle.sheet.specs.Limits.{max_bytes, catalogue_limit, option_limit, ordering_limit}
use Rattle.sheet.specs.Sheet.{sized}
use Rattle.sheet.specs.declared.answer.Refusal.{Refusal}
use Rattle.sheet.specs.declared.answer.Refusal.TheVariants.{SheetTooLong, NoTrailer, BadTrailer, Misshapen, TooManyLines}
use Rattle.sheet.specs.declared.judged.Judged.TheVariants.{Fine, Broken}
use Rattle.sheet.specs.declared.sheet.Sheet.{Sheet}
use Rattle.lines.specs.Lines.{judged_line}
use Rattle.lines.specs.Result.{accepted, refused_at}
use Rattle.lines.specs.Stored.{stored_line}
use Rattle.lines.specs.declared.result.Reading.{Reading}

-- 4: column c of the line that l begins with holds b, the first byte that, after the bytes before it, no well-shaped line of that
-- section could have there
pub record MisshapenAt (sec : Section) (l : List ℕ) (c b : ℕ) : Type 0 where
  pub front : List ℕ
  pub rest : List ℕ
  pub whole : l ≡ front ++ b ∷ rest
  pub in_line : line_ends front ≡ 0
  pub could : CouldBegin sec front
  pub cannot : CouldBegin sec (front ++ (b ∷ [])) → ⊥
  pub column : c ≡ suc (length front)

-- the lines from line 1: of k lines from line n on, with the record of the lines before, the place is that of the first line that
-- breaks a rule. `judged_line` tells the first rule that a line's numbers break, in the order 5, 8, 7, 9, 10 (`LineBreaks` has them)
pub data Verdict (f u : ℕ) : ℕ → ℕ → List ℕ → Sheet → Reading → Type 0 where
  over : {n : ℕ} {l : List ℕ} {s : Sheet} → Verdict f u zero n l s (accepted s)
  misshapen : {k n c b : ℕ} {l : List ℕ} {s : Sheet} → MisshapenAt (section_of f u n) l c b → Verdict f u (suc k) n l s (refused_at Misshapen n c)
  broken : {k n c : ℕ} {l : List ℕ} {s : Sheet} {why : Refusal} (x r : List ℕ) → l ≡ x ++ r → Line (section_of f u n) x
      → judged_line f u (section_of f u n) n (numbers_of l) s ≡ Broken why c → Verdict f u (suc k) n l s (refused_at why n c)
  next : {k n : ℕ} {l : List ℕ} {s : Sheet} {o : Reading} (x r : List ℕ) → l ≡ x ++ r → Line (section_of f u n) x
      → judged_line f u (section_of f u n) n (numbers_of l) s ≡ Fine
      → Verdict f u k (n + 1) r (stored_line f u (section_of f u n) n (get_or l 0 0) (numbers_of l) s) o → Verdict f u (suc k) n l s o

-- the last line of a text is a well-shaped trailer with the numbers f u t; `front` holds the lines before it
pub record EndsInTrailer (text front : List ℕ) (f u t : ℕ) : Type 0 where
  pub whole : text ≡ front ++ line_text 84 (f ∷ u ∷ t ∷ [])
  pub lines : whole_lines true front ≡ true
  pub five_digits : (f ≤ 99999) × ((u ≤ 99999) × (t ≤ 99999))

-- 1 ≤ f ≤ u ≤ t, and t is the trailer's own line n
abbrev pub GoodTrailer : ℕ → ℕ → ℕ → ℕ → Type 0
GoodTrailer f u t n = (1 ≤ f) × ((f ≤ u) × ((u ≤ t) × (t ≡ n)))

-- the answer for a sheet, a row of the table at a time
pub data Told (text : List ℕ) : Reading → Type 0 where
  sheet_too_long : max_bytes < length text → Told text (refused_at SheetTooLong 0 0)
  no_trailer : length text ≤ max_bytes → ((front : List ℕ) (f u t : ℕ) → EndsInTrailer text front f u t → ⊥) → Told text (refused_at NoTrailer 0 0)
  trailer_bad : (front : List ℕ) (f u t : ℕ) → length text ≤ max_bytes → EndsInTrailer text front f u t → (GoodTrailer f u t (suc (line_ends front)) → ⊥)
      → Told text (refused_at BadTrailer (suc (line_ends front)) 1)
  too_many_catalogue_lines : (front : List ℕ) (f u t : ℕ) → length text ≤ max_bytes → EndsInTrailer text front f u t → GoodTrailer f u t (suc (line_ends front))
      → catalogue_limit < f - 1 → Told text (refused_at TooManyLines (1 + catalogue_limit) 1)
  too_many_options : (front : List ℕ) (f u t : ℕ) → length text ≤ max_bytes → EndsInTrailer text front f u t → GoodTrailer f u t (suc (line_ends front))
      → f - 1 ≤ catalogue_limit → option_limit < u - f → Told text (refused_at TooManyLines (f + option_limit) 1)
  too_many_orderings : (front : List ℕ) (f u t : ℕ) → length text ≤ max_bytes → EndsInTrailer text front f u t → GoodTrailer f u t (suc (line_ends front))
      → f - 1 ≤ catalogue_limit → u - f ≤ option_limit → ordering_limit < t - u → Told text (refused_at TooManyLines (u + ordering_limit) 1)
  lines : {o : Reading} (front : List ℕ) (f u t : ℕ) → length text ≤ max_bytes → EndsInTrailer text front f u t → GoodTrailer f u t (suc (line_ends front))
      → f - 1 ≤ catalogue_limit → u - f ≤ option_limit → t - u ≤ ordering_limit → Verdict f u (t - 1) 1 text (sized (f - 1) (u - f) (t - u)) o → Told text o
