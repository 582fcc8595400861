use Rattle.std.proofs.Common.{◌+◌, ◌-◌, ◌++◌, take, drop, arith, ap, sym, ◌∙◌, get_or, rules}
use Rattle.std.proofs.lemmas.List.{drop_more}
use Rattle.iso_app.specs.Sealed.{sealed}
use Rattle.iso_app.proofs.SealLaw.{seal_step}
use Rattle.iso_app.proofs.seal.seal.Goals as goal

pub loop-length-preserved : goal.loop-length-preserved
loop-length-preserved c =
    let words = c.loop-length.words in
    let start = c.loop-length.start in
    let count = c.min.result in
    let lengths = c.args.lengths.now in
    let at = c.loop-length.length-index in record {
      within = search rules;
      whole =
          seal_step words c.seal_frame.new.words start count (start + count - start) (get_or lengths at 0) (drop (at + 1) lengths)
          c.loop-length.invariant.within (omega arith) (omega arith) c.seal_frame.ensures
          ∙ ap (λ l. take start words ++ sealed l (drop start words)) (sym (drop_more lengths at 0 (omega arith)))
          ∙ c.loop-length.invariant.whole;
    }
