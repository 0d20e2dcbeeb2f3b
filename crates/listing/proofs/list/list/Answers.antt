use Rattle.std.proofs.Common.{arith, ◌≤◌, sym, ap, ◌∙◌}
use Rattle.std.proofs.lemmas.Bool.{cond-false, le-ltb}
use Rattle.listing.specs.Lines.{lines_from}
use Rattle.listing.specs.Names.{nothing, sorts_of}
use Rattle.listing.proofs.Meaning.{lists_records}
use Rattle.listing.proofs.Steps.{finished}
use Rattle.listing.proofs.list.list.Goals as goal

pub returns-then-log-gt-LONGEST-clause-means : goal.returns-then-log-gt-LONGEST-clause-means
returns-then-log-gt-LONGEST-clause-means c = lists_records

pub returns : goal.returns
returns c =
    let listing = c.list_records-read.new.self in
    let log = c.list_records-read.ensures.log ∙ c.new-listing.ensures in
    let short : listing.reader.offset ≤ 8190 = omega (arith, listing.reader.within, listing.short) in
    record {
      lines =
          c.finish.ensures
          ∙ finished listing.reader.log.now listing.reader.offset (sorts_of listing.names) _ _ c.list_records-read.result c.list_records-read.ensures.stops short listing.whole
          ∙ ap (λ bytes. lines_from 1171 bytes 0 nothing) log
          ∙ sym (cond-false _ _ _ (le-ltb _ _ c.if-log-gt-LONGEST.false));
      means = lists_records;
    }
