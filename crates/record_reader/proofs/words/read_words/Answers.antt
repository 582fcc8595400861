use Rattle.record_reader.proofs.Loops.{words_go_on}
use Rattle.record_reader.proofs.words.read_words.Goals as goal

pub loop-preserved : goal.loop-preserved
loop-preserved c =
    words_go_on c.args.count c.loop.counter c.in_ok-word.word c.loop.words c.push.new.self c.loop.rest.now c.in_ok-word.after.now _ c.loop-test.true
    c.in_ok-word.ensures c.in_ok-push.ensures.ok c.loop.invariant
