use Rattle.std.proofs.Common.{sym, ap, ◌∙◌}
use Rattle.std.proofs.lemmas.List.{take_rest}
use Rattle.record.specs.Records.{read_one}
use Rattle.record.proofs.RoundTrip.{one_record_each}
use Rattle.record.proofs.reader.Reader.next.Goals as goal

pub returns-clause-only : goal.returns-clause-only
returns-clause-only c = λ x e.
    let at = c.args.self.now in
    one_record_each.only at.log.now at.offset x (sym (c.read-answer.ensures ∙ ap read_one (take_rest at.log.now at.offset)) ∙ e)

pub returns-clause-each : goal.returns-clause-each
returns-clause-each c = one_record_each
