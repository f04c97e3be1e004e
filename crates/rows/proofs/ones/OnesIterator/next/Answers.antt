-- The lowest bit is the first slot, and without it the others are left.
use Rattle.std.proofs.Common.{◌≡◌, ◌<◌, [], length, arith, ap}
use Rattle.std.proofs.lemmas.Grind.{common_steps}
use Rattle.std.specs.Int.{w32, trailing_zeros}
use Rattle.std.proofs.lemmas.Nat.Bits.{bit_at-trailing_zeros}
use Rattle.rows.specs.Ones.{slots}
use Rattle.rows.proofs.Lowest.{slots_none, slots_lowest}
use Rattle.rows.proofs.ones.OnesIterator.next.Goals as goal

pub returns-then-self-eq0-clause-steps : goal.returns-then-self-eq0-clause-steps
returns-then-self-eq0-clause-steps c =
    let none : c.args.self.now.0 ≡ 0 = omega (arith, c.if-self-eq0.true) in
    let e : slots c.args.self.now.0 ≡ [] = rw none (slots_none 32 0) in
    ((e, e), λ x h. cc)

pub returns-clause-steps : goal.returns-clause-steps
returns-clause-steps c =
    let below : trailing_zeros w32 c.args.self.now.0 < 32 = (bit_at-trailing_zeros w32 c.args.self.now.0 (omega arith) (omega arith)).0 in
    (slots_lowest c.args.self.now.0 (omega arith) (omega arith), λ x h. let e : trailing_zeros w32 c.args.self.now.0 ≡ x = cc in omega arith)

pub returns-clause-goes : goal.returns-clause-goes
returns-clause-goes c = grind (arith, common_steps, ap length (slots_lowest c.args.self.now.0 (omega arith) (omega arith)))
