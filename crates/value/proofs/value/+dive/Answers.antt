-- What a dive keeps is a consistent relaxation, and each call leaves fewer items open.
use Rattle.settle.specs.laws.Items.{kept_falls, kept_apart}
use Rattle.value.specs.laws.Values.{reached_nought}
use Rattle.value.proofs.value.+dive.Goals as goal

pub returns-in_default : goal.returns-in_default
returns-in_default t c = reached_nought _

pub dive-requires : goal.dive-requires
dive-requires t c =
    let left = c.in-Some.ensures.left in
    let picked = c.in-Some-heaviest_item.ensures in
    (kept_falls _ left _ picked _ c.keep_item.ensures _ c.decreases, kept_apart _ left _ picked _ c.keep_item.ensures)
