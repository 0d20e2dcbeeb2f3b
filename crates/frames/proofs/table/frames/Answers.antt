-- Every row by evaluation.
use Rattle.std.proofs.Common.{refl}
use Rattle.links.specs.Chains.{fewest, joined, lowest_joined, within}
use Rattle.arrangement.specs.Meaning.{lowest, same}
use Rattle.meaning.specs.Answers.{apart, cell, cited, distance, filling, known, told}
use Rattle.meaning.specs.Columns.{alike, alike_at, clash, clash_at, columns, differences, links_at, marks_at, parted, test}
use Rattle.frames.proofs.table.frames.Goals as goal

-- all that a row evaluates, under one name
opened : Unit {0}
unfolding test clash_at alike_at parted clash alike columns links_at marks_at differences told known distance apart filling cell cited fewest lowest_joined joined within lowest same
opened = tt

pub returns : goal.returns
unfolding opened
returns c = refl
