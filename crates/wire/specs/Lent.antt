-- What becomes of an answer where a list or a lent output is wrong, and what a lent output holds afterwards.
use Rattle.std.specs.Prelude.{ℕ, Bool, true, false, not, cond, ◌&&◌, List, ◌++◌, length, drop}
use Rattle.sheet.specs.Answer.{refused}
use Rattle.sheet.specs.declared.answer.Answer.{Answer}
use Rattle.sheet.specs.declared.answer.Answer.TheVariants.{Accepted, Refused}
use Rattle.sheet.specs.declared.answer.Refusal.TheVariants.{OutputTooShort, WrongDecisions}

abbrev pub is_accepted : Answer → Bool
is_accepted Accepted = true
is_accepted (Refused place why) = false

-- 14 after 12: of a good record, bytes that spell no decision list are refused.
unfoldable pub with_list : Answer → (recorded spelled : Bool) → Answer
with_list answer recorded spelled = cond (recorded && not spelled) (refused WrongDecisions) answer

-- 13 "after everything else": whether the lent output is long enough counts only for a success.
unfoldable pub lent : Answer → (fits : Bool) → Answer
lent answer fits = cond (is_accepted answer && not fits) (refused OutputTooShort) answer

-- Each refusal "changes no lent byte. On success, bytes past the written text stay as they were."
unfoldable pub written : Answer → List ℕ → List ℕ → List ℕ
written answer shown out = cond (is_accepted answer) (shown ++ drop (length shown) out) out
