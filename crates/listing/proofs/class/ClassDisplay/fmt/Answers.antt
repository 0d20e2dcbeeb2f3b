use Rattle.std.proofs.Common.{◌≡◌, ◌++◌, sym, refl, ap, arith}
use Rattle.std.proofs.Output.{has_written_of_eq, has_written_append}
use Rattle.std.specs.List.{range_with_len, flat_map}
use Rattle.listing.specs.Classes.{shown_members, shown_name, shown_sort}
use Rattle.listing.proofs.Counting.{joined_counting}
use Rattle.listing.proofs.class.ClassDisplay.fmt.Goals as goal

pub loop-name-preserved : goal.loop-name-preserved
loop-name-preserved g c = λ plain.
    let members = c.args.self.now.members in
    let before = c.loop-name.invariant plain in
    let piece = c.in_ok-write-2.ensures.writes before.plain refl in
    has_written_of_eq g.W.Write.write_str_gives _ _ _ _ (sym (joined_counting (shown_name members) c.loop-name.name)) (has_written_append g.W.Write.write_str_gives _ _ _ _ _ before piece)

pub returns-clause-writes : goal.returns-clause-writes
unfolding shown_members
returns-clause-writes g c = λ plain ok.
    let members = c.args.self.now.members in
    let sort = c.in_ok-write.ensures.writes plain refl in
    let all : c.loop-name.name ≡ 64 = omega arith in
    has_written_of_eq g.W.Write.write_str_gives _ _ _ _ (ap (λ n. shown_sort c.args.self.now.sort ++ flat_map (shown_name members) (range_with_len 0 n)) all) (has_written_append g.W.Write.write_str_gives _ _ _ _ _ sort (c.loop-name.invariant sort.plain))
