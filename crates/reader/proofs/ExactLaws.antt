-- The record's rule, the check and being given by an accepted sheet are one: so 12 is given exactly to a record that no accepted sheet gives.
use Prim.Native.Nat.{ℕ}
use mathlib.Core.Path.{◌≡◌, refl, sym, ◌∙◌}
use mathlib.Core.Bool.{Bool, true, false}
use mathlib.Core.List.{List}
use Rattle.sheet.specs.IsRecorded.{is_recorded}
use Rattle.sheet.specs.Recorded.{Recorded, Lengths}
use Rattle.sheet.specs.Text.{text_of}
use Rattle.sheet.specs.declared.sheet.Sheet.{Sheet}
use Rattle.sheet.proofs.ObeyLaws.{passes_recorded}
use Rattle.sheet.proofs.PassLaws.{recorded_passes}
use Rattle.reader.specs.Read.{read_sheet}
use Rattle.lines.specs.Result.{accepted}
use Rattle.reader.proofs.ByLineLaws.{rule_recorded, recorded_rule}
use Rattle.reader.proofs.OwnTextLaws.{rule_given}
use Rattle.reader.proofs.AcceptedRuleLaws.{accepted_rule}

-- the rule holds exactly of the records that an accepted sheet gives
pub given_is_recorded : (text : List ℕ) (s : Sheet) → read_sheet text ≡ accepted s → Recorded s
given_is_recorded text s e =
    let r = accepted_rule text s e in
    rule_recorded r.0 r.1 r.2 s r.3

pub recorded_is_given : (s : Sheet) → Recorded s → read_sheet (text_of s) ≡ accepted s
recorded_is_given s R = rule_given _ _ _ s (recorded_rule s R _ _ _ refl refl refl)

-- and so does the check
pub given_passes : (text : List ℕ) (s : Sheet) → read_sheet text ≡ accepted s → is_recorded s ≡ true
given_passes text s e = recorded_passes s (given_is_recorded text s e)

pub passes_is_given : (s : Sheet) → Lengths s → is_recorded s ≡ true → read_sheet (text_of s) ≡ accepted s
passes_is_given s L e = recorded_is_given s (passes_recorded s L e)

-- what 12 says of a record
pub NoSheetGives : Sheet → Type 0
NoSheetGives s = (text : List ℕ) → read_sheet text ≡ accepted s → ⊥

pub fails_not_given : (s : Sheet) → is_recorded s ≡ false → NoSheetGives s
unfolding NoSheetGives
fails_not_given s e text d =
    let z : true ≡ false = sym (given_passes text s d) ∙ e in
    cc

pub not_given_fails : (s : Sheet) → Lengths s → NoSheetGives s → is_recorded s ≡ false
unfolding NoSheetGives
not_given_fails s L h = go (is_recorded s) refl
  where
    go : (t : Bool) → is_recorded s ≡ t → t ≡ false
    go true e = absurd (h (text_of s) (passes_is_given s L e))
    go false e = refl
