use Rattle.std.proofs.Common.{◌≡◌, ℕ, ◌*◌, List, length, ap, sym, ◌∙◌, arith}
use Rattle.std.specs.Vec.{with_items}
use Rattle.std.proofs.lemmas.List.{with_items_is}
use Rattle.irt_base.specs.Words.{words_of}
use Rattle.iso_station.specs.Held.{Held, with_words}
use Rattle.iso_station.proofs.Reading.{words_read}
use Rattle.iso_station.proofs.held.HeldFrame.put.Goals as goal

pub returns : goal.returns
returns c =
    let old : Held = record { entry = c.self.inside.entry; words = c.self.inside.words.items; misses = c.self.inside.misses; came = c.self.inside.came } in
    let dst = c.read_u64_into.new.dst in
    let same : length dst ≡ length c.self.inside.words.items = c.read_u64_into.auto.dst ∙ ap length c.as_mut_slice.ensures.value in
    let room : length dst ≡ c.self.inside.words.len = same ∙ sym c.self.inside.words.ok.0 in
    let wide : length c.args.csdu.now ≡ c.self.inside.entry.data_length = c.requires ∙ ap (λ (h : Held). h.entry.data_length) (sym c.self.view_is) in
    let whole = c.self.invariant.valid.length.1 in
    let count = c.self.invariant.count in
    let long : length c.args.csdu.now ≡ 8 * length dst = omega (arith, same, wide, whole, count) in
    let items : (with_items c.self.inside.words dst).items ≡ words_of c.args.csdu.now =
    with_items_is c.self.inside.words dst room ∙ words_read dst c.args.csdu.now long c.read_u64_into.ensures in
    ap (λ (ws : List ℕ). with_words ws old) items ∙ ap (with_words (words_of c.args.csdu.now)) c.self.view_is
