-- The place of a refused sheet lies within the sheet, so its numbers have sixteen bits.
use Rattle.std.specs.Prelude.{ℕ, zero, suc, ◌+◌, ◌-◌, ◌≤◌, ◌<◌, Bool, true, false, cond, List, [], ◌∷◌, eqb, ltb, length, drop, take}
use Rattle.std.proofs.Common.{ap, ◌∙◌, arith, length-append}
use Rattle.shape.specs.Number.{number_width, numbers_of}
use Rattle.shape.specs.Scan.{section_of}
use Rattle.shape.specs.Trailer.{line_ends}
use Rattle.shape.specs.declared.number.Numbers.{Numbers}
use Rattle.shape.specs.declared.shape.Section.{Section}
use Rattle.shape.specs.declared.shape.Section.TheVariants.{Catalogue, Options, Orderings, Trailer}
use Rattle.sheet.specs.Judge.{is_in, is_pair, no_option, judge_pair}
use Rattle.sheet.specs.Limits.{largest_weight}
use Rattle.sheet.specs.declared.answer.Refusal.TheVariants.{OutsideRange, SubscribedTwice, OneOptionTwice, NotSubscribed, SamePairAgain}
use Rattle.sheet.specs.declared.answer.Answer.{Answer}
use Rattle.sheet.specs.declared.answer.Answer.TheVariants.{Accepted, Refused}
use Rattle.sheet.specs.declared.judged.Judged.{Judged}
use Rattle.sheet.specs.declared.judged.Judged.TheVariants.{Fine, Broken}
use Rattle.sheet.specs.declared.sheet.Sheet.{Sheet}
use Rattle.lines.specs.Lines.{judged_line}
use Rattle.reader.specs.Read.{read_sheet}
use Rattle.reader.specs.Verdict.{Verdict, over, misshapen, broken, next, Told, sheet_too_long, no_trailer, trailer_bad, too_many_catalogue_lines, too_many_options, too_many_orderings, lines}
use Rattle.lines.specs.declared.result.Reading.{Reading}
use Rattle.reader.proofs.ToldLaws.{told}

-- ---- the line and the column of an answer
abbrev pub line_of : Answer → ℕ
line_of Accepted = 0
line_of (Refused p why) = p.line

abbrev pub column_of : Answer → ℕ
column_of Accepted = 0
column_of (Refused p why) = p.column

-- ---- the column of a broken rule is that of one of the numbers
abbrev broken_column : Judged → ℕ
broken_column Fine = 0
broken_column (Broken why c) = c

catalogue_column : (c : ℕ) → c ≤ 15 → (x y z : Bool) → broken_column (cond x (Broken OutsideRange 3) (cond y (Broken OutsideRange c) (cond z (Broken OneOptionTwice c) Fine))) ≤ 15
catalogue_column c h true y z = omega arith
catalogue_column c h false true z = h
catalogue_column c h false false true = h
catalogue_column c h false false false = omega arith

option_column : (c : ℕ) → c ≤ 15 → (x y z : Bool) → broken_column (cond x (Broken OutsideRange 3) (cond y (Broken OutsideRange c) (cond z (Broken SubscribedTwice 3) Fine))) ≤ 15
option_column c h true y z = omega arith
option_column c h false true z = h
option_column c h false false true = omega arith
option_column c h false false false = omega arith

pair_column : (c : ℕ) → c ≤ 15 → (x y z : Bool) → broken_column (cond x (cond y (cond z (Broken SamePairAgain 1) Fine) (Broken NotSubscribed c)) (Broken NotSubscribed 3)) ≤ 15
pair_column c h true true true = omega arith
pair_column c h true true false = omega arith
pair_column c h true false z = h
pair_column c h false y z = omega arith

ordering_column : (c d : ℕ) → c ≤ 15 → d ≤ 15 → (j : Judged) → broken_column j ≤ 15 → (w x y z : Bool)
    → broken_column (cond w (Broken OutsideRange 3) (cond x (Broken OutsideRange c) (cond y (Broken OutsideRange d) (cond z (Broken OneOptionTwice c) j)))) ≤ 15
ordering_column c d h g j k true x y z = omega arith
ordering_column c d h g j k false true y z = h
ordering_column c d h g j k false false true z = g
ordering_column c d h g j k false false false true = h
ordering_column c d h g j k false false false false = k

width_short : (m : ℕ) (l : List ℕ) → number_width m l ≤ m
width_short zero l = omega arith
width_short (suc m) [] = omega arith
width_short (suc m) (b ∷ l) = go (ltb b 48) (ltb 57 b) (width_short m l)
  where
    go : (x y : Bool) → number_width m l ≤ m → cond x 0 (cond y 0 (suc (number_width m l))) ≤ suc m
    go true y h = omega arith
    go false true h = omega arith
    go false false h = omega arith

module _ (f u n : ℕ) (l : List ℕ) (s : Sheet) where
  abbrev h : Numbers
  h = numbers_of l

  third_short : h.third_column ≤ 15
  third_short = let a = width_short 5 (drop 2 l) in let b = width_short 5 (drop (2 + number_width 5 (drop 2 l) + 1) l) in omega arith

  second_short : h.second_column ≤ 15
  second_short = let a = width_short 5 (drop 2 l) in omega arith

  judged_short : (sec : Section) → broken_column (judged_line f u sec n h s) ≤ 15
  judged_short Catalogue = catalogue_column h.second_column second_short (no_option h.first) (no_option h.second) (eqb h.first h.second)
  judged_short Options = option_column h.second_column second_short (no_option h.first) (ltb largest_weight h.second) (is_in h.first (take (n - f) s.numbers))
  judged_short Orderings = ordering_column h.second_column h.third_column second_short third_short (judge_pair h (take (u - f) s.numbers) (take (n - u) s.firsts) (take (n - u) s.seconds))
      (pair_column h.second_column second_short (is_in h.first (take (u - f) s.numbers)) (is_in h.second (take (u - f) s.numbers)) (is_pair h.first h.second (take (n - u) s.firsts) (take (n - u) s.seconds)))
      (no_option h.first) (no_option h.second) (ltb largest_weight h.third) (eqb h.first h.second)
  judged_short Trailer = omega arith

-- ---- the lines, and the whole sheet
lines_short : {f u k n : ℕ} {l : List ℕ} {s : Sheet} {o : Reading} → Verdict f u k n l s o → length l ≤ 8192 → (line_of o.answer ≤ n + k) × (column_of o.answer ≤ 8193)
lines_short over long = (omega arith, omega arith)
lines_short (misshapen {b = b} w) long = (omega arith, (let e = ap length w.whole ∙ length-append w.front (b ∷ w.rest) in let c = w.column in omega arith))
lines_short {f} {u} (broken {n = n} {l = l} {s = s} x r e shaped judged) long = (omega arith, (let a = judged_short f u n l s (section_of f u n) in let c = ap broken_column judged in omega arith))
lines_short (next {l = l} x r e shaped judged rest) long =
    let z = lines_short rest (let a = ap length e ∙ length-append x r in omega arith) in
    (omega (arith, z.0), z.1)

line_ends_few : (l : List ℕ) → line_ends l ≤ length l
line_ends_few [] = omega arith
line_ends_few (b ∷ l) = go (eqb b 10) (line_ends_few l)
  where
    go : (x : Bool) → line_ends l ≤ length l → cond x (suc (line_ends l)) (line_ends l) ≤ suc (length l)
    go true h = omega arith
    go false h = omega arith

told_short : {text : List ℕ} {o : Reading} → Told text o → (line_of o.answer < 65536) × (column_of o.answer < 65536)
told_short (sheet_too_long h) = (omega arith, omega arith)
told_short (no_trailer h g) = (omega arith, omega arith)
told_short (trailer_bad front f u t long ends bad) = ((let a = ap length ends.whole ∙ length-append front _ in let b = line_ends_few front in omega arith), omega arith)
told_short (too_many_catalogue_lines front f u t long ends good many) = (omega arith, omega arith)
told_short (too_many_options front f u t long ends good few many) = (omega arith, omega arith)
told_short (too_many_orderings front f u t long ends good few fewer many) = (omega arith, omega arith)
told_short (lines front f u t long ends good a b c rest) = let z = lines_short rest long in (omega (arith, z.0), omega (arith, z.1))

pub place_is_short : (text : List ℕ) → (line_of (read_sheet text).answer < 65536) × (column_of (read_sheet text).answer < 65536)
place_is_short text = told_short (told text)
