use Rattle.std.proofs.Common.{◌≡◌, ◌∙◌, refl, rules, length}
use Rattle.std.specs.Prelude.{Some, slice_get}
use Rattle.std.proofs.lemmas.Option.{slice_get_read}
use Rattle.iso_plant.specs.Replay.{setup_in}
use Rattle.run_replay.proofs.Playing.{end_is, take_there}
use Rattle.run_replay.proofs.cycles.end_of.Goals as goal

pub take_at-requires : goal.take_at-requires
take_at-requires c =
    take_there (setup_in c.args.plant.now) (length c.args.plant.now.world.rows) c.args.k c.args.app c.args.logs.now c.index-logs-app.result c.requires.shape
    (slice_get_read c.args.logs.now (length c.args.logs.now) c.args.app c.index-logs-app.result refl c.requires.app c.index-logs-app.is) c.requires.cycle

pub returns : goal.returns
returns c =
    let wide : length c.in_ok-image.image.items ≡ c.input_words.result = search rules in
    end_is (setup_in c.args.plant.now) c.args.k c.args.app c.input_words.result c.args.logs.now c.index-logs-app.result c.take_at.result.now
    c.in_ok-image.image.items c.new.result
    (slice_get_read c.args.logs.now (length c.args.logs.now) c.args.app c.index-logs-app.result refl c.requires.app c.index-logs-app.is)
    c.take_at.ensures wide c.input_words.ensures c.new.ensures
