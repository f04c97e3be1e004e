-- Each way out of the branch is a step of the search, and each call leaves fewer items open.
use native.Mathlib.Omega.{arith}
use Rattle.settle.specs.laws.Items.{kept_falls, kept_apart, dropped_falls, dropped_apart}
use Rattle.so_far.specs.laws.State.{wanted_below}
use Rattle.branch.specs.laws.Steps.{step_enough, step_over, step_leaf, step_split}
use Rattle.branch.proofs.branching.+branch.Goals as goal

pub returns-then-ceiling-want : goal.returns-then-ceiling-want
returns-then-ceiling-want t c = step_enough _ _ _ _ _ c.requires.1 _ c.wanted-want.ensures c.if-ceiling-want.true

pub settle-requires : goal.settle-requires
settle-requires t c =
    (c.requires.0, (let w = wanted_below c.args.found.now c.args.tolerance in omega (arith, w, c.wanted-want.ensures, c.requires.1, c.requires.2)))

pub returns-in_default : goal.returns-in_default
returns-in_default t c = step_over _ _ _ _ _ c.requires.1 _ c.wanted-want.ensures c.in_default.ensures.over

pub returns-in_default-first : goal.returns-in_default-first
returns-in_default-first t c = step_leaf _ _ _ _ _ c.requires.1 _ c.wanted-want.ensures _ c.in-Some.ensures.left c.in_default-first.ensures _ c.take.ensures

pub branch-chart-requires : goal.branch-chart-requires
branch-chart-requires t c =
    let left = c.in-Some.ensures.left in
    let picked = c.in-Some-first.ensures.picked in
    (kept_falls _ left _ picked _ c.keep_item.ensures _ c.decreases, (kept_apart _ left _ picked _ c.keep_item.ensures, c.requires.1, c.requires.2))

pub branch-chart-requires-2 : goal.branch-chart-requires-2
branch-chart-requires-2 t c =
    let left = c.in-Some.ensures.left in
    let picked = c.in-Some-first.ensures.picked in
    (dropped_falls _ left _ picked _ c.drop_item.ensures _ c.decreases, (dropped_apart _ left _ picked _ c.drop_item.ensures, c.branch-chart.ensures.goal, c.requires.2))

pub returns : goal.returns
returns t c = step_split _ _ _ _ _ c.requires.1 _ c.wanted-want.ensures _ c.in-Some.ensures.left _ c.in-Some-first.ensures _ _ c.keep_item.ensures c.drop_item.ensures _ _ c.branch-chart.ensures c.branch-chart-2.ensures
