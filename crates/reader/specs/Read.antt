-- Reading checks 1, 2, 3, then 6 (sections in order), then the lines from line 1: what the contract of `read` cites.
use Rattle.std.specs.Prelude.{ℕ, ◌+◌, ◌-◌, Bool, cond, not, ◌||◌, List, eqb, ltb, length, take, drop}
use Rattle.shape.specs.Number.{numbers_of}
use Rattle.shape.specs.Scan.{first_misshapen}
use Rattle.shape.specs.Trailer.{last_line, is_trailer}
use Rattle.shape.specs.declared.number.Numbers.{Numbers}
use Rattle.shape.specs.declared.scan.Scanned.{Scanned}
use Rattle.shape.specs.declared.scan.Scanned.TheVariants.{Clean, At}
use Rattle.shape.specs.declared.trailer.LastLine.{LastLine}
use Rattle.sheet.specs.Limits.{max_bytes, catalogue_limit, option_limit, ordering_limit}
use Rattle.sheet.specs.Sheet.{sized}
use Rattle.sheet.specs.declared.answer.Answer.TheVariants.{Accepted, Refused}
use Rattle.sheet.specs.declared.answer.Refusal.TheVariants.{SheetTooLong, NoTrailer, BadTrailer, Misshapen, TooManyLines}
use Rattle.sheet.specs.declared.sheet.Sheet.{Sheet}
use Rattle.lines.specs.Lines.{read_lines}
use Rattle.lines.specs.Result.{refused_at}
use Rattle.lines.specs.declared.result.Reading.{Reading}

-- the lines before the trailer, after the scan for the first misshapen one: the lines before that are judged, and then it is refused
unfoldable pub read_body : ℕ → ℕ → List ℕ → Sheet → ℕ → Scanned → Reading
read_body f u text s t Clean = read_lines f u Accepted (t - 1) 1 text s
read_body f u text s t (At p b) = read_lines f u (Refused p Misshapen) (p.line - 1) 1 text s

-- the trailer breaks 1 ≤ f ≤ u ≤ t, or t is not its line
abbrev pub bad_trailer : ℕ → ℕ → ℕ → ℕ → Bool
bad_trailer f u t n = ltb f 1 || (ltb u f || (ltb t u || not (eqb t n)))

-- a text with a well-shaped last line, the nth, that begins at index `at` and has the numbers f u t
unfoldable pub read_trailed : List ℕ → ℕ → ℕ → ℕ → ℕ → ℕ → Reading
read_trailed text at n f u t =
    let o : Reading = read_body f u text (sized (f - 1) (u - f) (t - u)) t (first_misshapen f u (take at text)) in
    cond (bad_trailer f u t n) (refused_at BadTrailer n 1)
    (cond (ltb catalogue_limit (f - 1)) (refused_at TooManyLines (1 + catalogue_limit) 1)
    (cond (ltb option_limit (u - f)) (refused_at TooManyLines (f + option_limit) 1)
    (cond (ltb ordering_limit (t - u)) (refused_at TooManyLines (u + ordering_limit) 1)
    o)))

unfoldable pub read_sheet : List ℕ → Reading
read_sheet text =
    let e : LastLine = last_line text in
    let h : Numbers = numbers_of (drop e.start text) in
    let o : Reading = read_trailed text e.start e.lines h.first h.second h.third in
    cond (ltb max_bytes (length text)) (refused_at SheetTooLong 0 0)
    (cond (is_trailer (drop e.start text)) o
    (refused_at NoTrailer 0 0))
