use Rattle.std.proofs.Common.{rules, tests, true, ◌&&◌, ◌∙◌}
use Rattle.std.proofs.lemmas.Iterator.{YieldsList-from_slice}
use Rattle.std.proofs.lemmas.Iterator.Consumers.{fold_from_yields_List}
use Rattle.book.proofs.KeptLaws.{fine, words-all}
use Rattle.book.proofs.locals.all_words.Goals as goal

pub returns : goal.returns
returns c =
    let l = c.args.locals.now in
    fold_from_yields_List _ (λ all x. all && fine x) true _ c.fold.ensures.ran (YieldsList-from_slice l cc) (λ a x b q k. search (rules, tests))
    ∙ words-all true l
