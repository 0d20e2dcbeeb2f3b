use Rattle.std.proofs.Common.{◌≡◌, ℕ, ◌+◌, ◌≤◌, Option, List, ◌++◌, vec_items, vec_len, vec_capacity, sym, ap, ◌∙◌, append_assoc, arith}
use Rattle.std.proofs.lemmas.List.{append-nil}
use Rattle.std.specs.List.{range_with_len, flat_map}
use Rattle.std.specs.Option.{option_map, option_to_list}
use Rattle.paired.specs.Held.{pairings_of}
use Rattle.paired.specs.Pairings.{meaning_of}
use Rattle.listing.specs.declared.class.Class.{Class}
use Rattle.listing.specs.declared.line.Line.{Line}
use Rattle.listing.specs.declared.line.Line.TheVariants.{Grouped}
use Rattle.listing.specs.Lines.{class_line, class_lines}
use Rattle.listing.proofs.Counting.{joined_counting}
use Rattle.listing.proofs.classing.list_classes.Goals as goal
use Rattle.listing.proofs.classing.list_classes.Goals.{in-Some, in_default}

-- the line of the class of this name follows, if there is one
pub loop-name-preserved : goal.loop-name-preserved
loop-name-preserved c =
    let line : ℕ → List Line = class_line c.args.sort (meaning_of (pairings_of c.args.names.now)) in
    let name = c.loop-name.name in
    let first = vec_items c.args.lines.now in
    let before = vec_items c.loop-name.lines in
    let after = c.match-class_of.lines in
    let shown : Option Class → List Line = λ found. before ++ option_to_list (option_map Grouped found) in
    let Grown : Type 0 = (vec_items after ≡ shown c.class_of.result) × (vec_len after ≤ vec_len c.loop-name.lines + 1) × (vec_capacity after ≡ vec_capacity c.loop-name.lines) in
    let grown : Grown = elim c.match-class_of.branch [
      | in-Some w ↦ (ap vec_items w.lines-is ∙ w.push_reserved.ensures.items ∙ ap shown (sym w.in-Some.is), omega (arith, w.push_reserved.ensures.len, ap vec_len w.lines-is), ap vec_capacity w.lines-is ∙ w.push_reserved.ensures.capacity)
      | in_default w ↦ (ap vec_items w.lines-is ∙ sym (append-nil before) ∙ ap shown (sym w.in_default.is), omega (arith, ap vec_len w.lines-is), ap vec_capacity w.lines-is)
    ] in
    let listed = grown.0 ∙ ap shown c.class_of.ensures ∙ ap (λ items. items ++ line name) c.loop-name.invariant.0 ∙ append_assoc first _ _ ∙ ap (λ items. first ++ items) (sym (joined_counting line name)) in
    (listed, omega (arith, grown.1, c.loop-name.invariant.1), grown.2 ∙ c.loop-name.invariant.2)

pub returns : goal.returns
unfolding class_lines
returns c =
    let line : ℕ → List Line = class_line c.args.sort (meaning_of (pairings_of c.args.names.now)) in
    let all : c.loop-name.name ≡ c.args.names.now.names = omega (arith, c.count-name-end.ensures, c.loop-name.auto.name-end, c.loop-name-test.false) in
    record {
      listed = c.loop-name.invariant.0 ∙ ap (λ n. vec_items c.args.lines.now ++ flat_map line (range_with_len 0 n)) all;
      few = omega (arith, c.loop-name.invariant.1, all, c.args.names.now.few);
      room = c.loop-name.invariant.2;
    }
