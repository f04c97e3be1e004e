-- The lines of a sheet, one by one, into the record.
use Rattle.std.specs.Prelude.{ℕ, zero, suc, ◌+◌, ◌-◌, ◌≤◌, ◌<◌, List, take, drop, get_or}
use Rattle.shape.specs.Line.{line_length}
use Rattle.shape.specs.Number.{numbers_of}
use Rattle.shape.specs.Scan.{section_of}
use Rattle.shape.specs.declared.number.Numbers.{Numbers}
use Rattle.shape.specs.declared.shape.Section.{Section}
use Rattle.shape.specs.declared.shape.Section.TheVariants.{Catalogue, Options, Orderings, Trailer}
use Rattle.sheet.specs.Judge.{judge_catalogue_line, judge_option, judge_ordering}
use Rattle.sheet.specs.declared.answer.Answer.{Answer}
use Rattle.sheet.specs.declared.judged.Judged.{Judged}
use Rattle.sheet.specs.declared.judged.Judged.TheVariants.{Fine, Broken}
use Rattle.sheet.specs.declared.sheet.Sheet.{Sheet}
use Rattle.lines.specs.Result.{answered, refused_at}
use Rattle.lines.specs.Stored.{stored_line}
use Rattle.lines.specs.declared.result.Reading.{Reading}

-- what the rules say of line n, where the F lines begin at line f and the U lines at line u, after the lines before it
abbrev pub judged_by : ℕ → ℕ → Section → ℕ → Numbers → List ℕ → List ℕ → List ℕ → Judged
judged_by f u Catalogue n h numbers firsts seconds = judge_catalogue_line h
judged_by f u Options n h numbers firsts seconds = judge_option h (take (n - f) numbers)
judged_by f u Orderings n h numbers firsts seconds = judge_ordering h (take (u - f) numbers) (take (n - u) firsts) (take (n - u) seconds)
judged_by f u Trailer n h numbers firsts seconds = Fine

abbrev pub judged_line : ℕ → ℕ → Section → ℕ → Numbers → Sheet → Judged
judged_line f u sec n h s = judged_by f u sec n h s.numbers s.firsts s.seconds

abbrev pub after_judged : Judged → ℕ → Reading → Reading
after_judged Fine n o = o
after_judged (Broken k c) n o = refused_at k n c

-- k lines from line n on, which the text l begins with: the first line that breaks a rule, or the answer a
unfoldable pub read_lines : ℕ → ℕ → Answer → ℕ → ℕ → List ℕ → Sheet → Reading
read_lines f u a zero n l s = answered a s
read_lines f u a (suc k) n l s =
    let h : Numbers = numbers_of l in
    let sec : Section = section_of f u n in
    let o : Reading = read_lines f u a k (n + 1) (drop (line_length l) l) (stored_line f u sec n (get_or l 0 0) h s) in
    after_judged (judged_line f u sec n h s) n o

-- line n has a place in its section
pub record WithinLimits (f u n : ℕ) : Type 0 where
  pub ordered : f ≤ u
  pub few_catalogue : f ≤ 513
  pub few_options : u ≤ f + 32
  pub few_orderings : n < u + 64
