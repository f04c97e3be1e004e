-- Each way out of the pass keeps its promise, and each call leaves fewer items open.
use Rattle.settle.specs.laws.Items.{kept_falls, kept_apart, dropped_falls, dropped_apart}
use Rattle.value.specs.laws.Values.{value_at_leaf, value_at_split}
use Rattle.value.proofs.value.+best_value.Goals as goal

pub returns-in_default-pick : goal.returns-in_default-pick
returns-in_default-pick t c = value_at_leaf _ _ c.requires.1 _ _ c.in-Some.ensures.left c.in_default-pick.ensures _ c.max.ensures

pub best_value-kept-requires : goal.best_value-kept-requires
best_value-kept-requires t c =
    let left = c.in-Some.ensures.left in
    let picked = c.in-Some-pick.ensures in
    (kept_falls _ left _ picked _ c.keep_item.ensures _ c.decreases, (kept_apart _ left _ picked _ c.keep_item.ensures, c.requires.1))

pub best_value-requires : goal.best_value-requires
best_value-requires t c =
    let left = c.in-Some.ensures.left in
    let picked = c.in-Some-pick.ensures in
    (dropped_falls _ left _ picked _ c.drop_item.ensures _ c.decreases, (dropped_apart _ left _ picked _ c.drop_item.ensures, c.best_value-kept.ensures.small))

pub returns : goal.returns
returns t c = value_at_split _ _ c.requires.1 _ _ c.in-Some.ensures.left _ c.in-Some-pick.ensures _ _ c.keep_item.ensures c.drop_item.ensures _ _ c.best_value-kept.ensures c.best_value.ensures
