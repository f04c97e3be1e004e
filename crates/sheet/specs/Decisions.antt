-- The list of decisions in which nothing is decided: open is what an all-zero result shows.
use Rattle.std.specs.Prelude.{replicate}
use Rattle.sheet.specs.declared.decision.Decision.TheVariants.{Open}
use Rattle.sheet.specs.declared.decision.Decisions.{Decisions}
use Rattle.sheet.specs.Limits.{option_limit, ordering_limit}

abbrev pub all_open : Decisions
all_open = record { options = replicate option_limit Open; orderings = replicate ordering_limit Open }
