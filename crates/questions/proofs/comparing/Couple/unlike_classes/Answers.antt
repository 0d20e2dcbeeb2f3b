use Rattle.std.proofs.Common.{◌≡◌, ℕ, ◌+◌, ◌^◌, ◌<◌, filter, sym, ap, ◌∙◌, subst, arith}
use Rattle.arrangement.specs.Stored.{classes_meaning}
use Rattle.bounded.specs.Laws.{few}
use Rattle.column.specs.declared.naming.Naming.{Naming}
use Rattle.meaning.specs.Answers.{bits_of}
use Rattle.meaning.specs.Columns.{columns, columns_below}
use Rattle.questions.specs.Asked.{setting_in, unlike_at}
use Rattle.questions.proofs.Classes.{kept_below, more_below, set_kept, set_more, with_bit}
use Rattle.questions.proofs.comparing.Couple.unlike_classes.Goals as goal
use Rattle.questions.proofs.comparing.Couple.unlike_classes.Goals.{then-is_unlike_class, else-is_unlike_class}

pub loop-c-preserved : goal.loop-c-preserved
loop-c-preserved c =
    let s = c.args.self.now.standing.now in
    let m = (setting_in s).slots in
    let p = unlike_at s c.args.self.now.a c.args.self.now.b in
    let k = c.loop-c.c in
    let set = c.loop-c.set in
    let counted = ap (λ (n : Naming). (classes_meaning n.slots).size) c.naming.ensures in
    let name : k < m.size = omega (arith, counted, c.count-c-end.ensures, c.loop-c-test.true) in
    let small : k < 64 = omega (arith, name, few s.naming.slots.lowest) in
    elim c.if-is_unlike_class.branch [
      | then-is_unlike_class w ↦
          let is : c.if-is_unlike_class.set ≡ 2 ^ k + set = w.set-is ∙ with_bit k set c.loop-c.invariant.0 small in (
            subst (λ n. n < 2 ^ (k + 1)) (sym is) (more_below k set c.loop-c.invariant.0),
            is ∙ set_more m p k set (sym (w.if-is_unlike_class.ensures name)) c.loop-c.invariant.1,
          )
      | else-is_unlike_class w ↦ (
        subst (λ n. n < 2 ^ (k + 1)) (sym w.set-is) (kept_below k set c.loop-c.invariant.0),
        w.set-is ∙ set_kept m p k set (sym (w.if-is_unlike_class.ensures name)) c.loop-c.invariant.1,
      )
    ]

pub returns : goal.returns
unfolding columns
returns c =
    let s = c.args.self.now.standing.now in
    let m = (setting_in s).slots in
    let counted = ap (λ (n : Naming). (classes_meaning n.slots).size) c.naming.ensures in
    let end : c.loop-c.c ≡ m.size = omega (arith, counted, c.count-c-end.ensures, c.loop-c-test.false, c.loop-c.auto.c-end) in
    c.loop-c.invariant.1
    ∙ ap (λ (n : ℕ). bits_of (filter (unlike_at s c.args.self.now.a c.args.self.now.b) (columns_below m n))) end
