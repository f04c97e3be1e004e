-- A decision list in a lent output.
use Rattle.std.specs.Prelude.{ℕ, ◌≤◌, ◌≡◌, List, length}
use Rattle.std.proofs.Common.{arith, length-append}
use Rattle.rules.specs.laws.Slots.{length_list_of}
use Rattle.sheet.specs.declared.decision.Decisions.{Decisions}
use Rattle.print.specs.Put.{put}
use Rattle.decisions.specs.Decisions.{option_bytes, ordering_bytes, decision_bytes}
use Rattle.entries.specs.laws.Put.{put_then}

module _ (d : Decisions) where
  pub decisions_put : (before : List ℕ) {out after : List ℕ} → out ≡ put 0 (option_bytes d) before → after ≡ put 32 (ordering_bytes d) out → after ≡ put 0 (decision_bytes d) before
  decisions_put before e q = put_then 0 32 (option_bytes d) (ordering_bytes d) before e (let k : length (option_bytes d) ≡ 32 = length_list_of 32 _ in omega arith) q

  decisions_length : length (decision_bytes d) ≡ 96
  decisions_length =
      let e = length-append (option_bytes d) (ordering_bytes d) in
      let f : length (option_bytes d) ≡ 32 = length_list_of 32 _ in
      let g : length (ordering_bytes d) ≡ 64 = length_list_of 64 _ in
      omega arith

  pub decisions_fit : (out : List ℕ) → 96 ≤ length out → length (decision_bytes d) ≤ length out
  decisions_fit out h = let k = decisions_length in omega arith
