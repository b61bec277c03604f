use Rattle.deck.proofs.RecordLaws.{placed-as}
use Rattle.deck.specs.Load.{ordinary, one_record, Lettered}
use Rattle.steps.proofs.Sequence.{give, same_err, then, then_err}
use Rattle.records.specs.Symbols.{name_of, record_of}
use Rattle.paper.specs.Deck.{load_record, load_word}
use Rattle.paper.proofs.Kit.{length, subst, sym}
use Rattle.deck.proofs.load_record.Goals as goal

pub load_region-requires : goal.load_region-requires
load_region-requires c =
    (c.requires.0, c.requires.1, subst Lettered c.in-Region.is c.requires.2)

pub returns-in-Region : goal.returns-in-Region
unfolding ordinary one_record load_record
returns-in-Region c =
    placed-as (λ y. one_record (length c.args.cells.now) (record_of y)) c.in-Region.is c.load_region.ensures

pub returns-in-Routine : goal.returns-in-Routine
unfolding ordinary one_record load_record
returns-in-Routine c =
    placed-as (λ y. one_record (length c.args.cells.now) (record_of y)) c.in-Routine.is c.load_routine.ensures

pub returns-in-Datum : goal.returns-in-Datum
unfolding ordinary one_record load_record
returns-in-Datum c =
    placed-as (λ y. one_record (length c.args.cells.now) (record_of y)) c.in-Datum.is
    (placed-as (λ q. ordinary (load_word (name_of c.in-Datum.name) 0 q c.in-Datum.symb c.in-Datum.link))
    (sym c.data_tag.ensures) c.load_word.ensures)

pub returns-in-Number : goal.returns-in-Number
unfolding ordinary one_record load_record
returns-in-Number c =
    placed-as (λ y. one_record (length c.args.cells.now) (record_of y)) c.in-Number.is c.load_term.ensures

pub returns-in_err-load_start-in-Start : goal.returns-in_err-load_start-in-Start
unfolding ordinary one_record load_record
returns-in_err-load_start-in-Start c =
    rw (same_err c.from_residual.ensures.1)
    (placed-as (λ y. one_record (length c.args.cells.now) (record_of y)) c.in-Start.is
    (record { did = then_err _ (c.in_err-load_start-in-Start.ensures _); made = c.requires.0 }))

pub returns-in_ok-load_start-in-Start : goal.returns-in_ok-load_start-in-Start
unfolding ordinary one_record load_record
returns-in_ok-load_start-in-Start c =
    placed-as (λ y. one_record (length c.args.cells.now) (record_of y)) c.in-Start.is
    (record { did = then (c.in_ok-load_start-in-Start.ensures _) give; made = c.requires.0 })
