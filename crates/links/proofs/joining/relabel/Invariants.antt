use Rattle.std.proofs.Common.{◌≡◌, ◌++◌, take, drop}
use Rattle.links.specs.Groups.{relabelled}
use Rattle.links.proofs.joining.relabel.Given as goal

-- the labels so far are relabelled, and the others are as they were
abbrev pub invariant-loop-label : goal.invariant-loop-label
invariant-loop-label l = l.labels ≡ relabelled l.old l.new (take l.label-index l.initial.labels) ++ drop l.label-index l.initial.labels
