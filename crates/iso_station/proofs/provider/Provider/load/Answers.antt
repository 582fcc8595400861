use Rattle.std.proofs.Common.{◌≡◌, ◌+◌, ◌-◌, ◌<◌, ◌≤◌, List, length, take, drop, get_or, refl, ap, ◌∙◌, subst, arith, rules}
use Rattle.irt_base.specs.declared.blocks.Entry.{Entry}
use Rattle.irt_switch.proofs.Finding.{AreAscending}
use Rattle.iso_rules.specs.Station.{data_words, words_in}
use Rattle.iso_station.specs.Provider.{ProviderState, with_due}
use Rattle.iso_station.proofs.Placing.{next_at, places_left, load_step, load_end, words_step, words_room}
use Rattle.iso_station.proofs.provider.Provider.load.Goals as goal

pub slice_bounds-put_due-end : goal.slice_bounds-put_due-end
slice_bounds-put_due-end c =
    let p = c.args.self.now in
    let i = c.loop-index.index in
    let e = c.index.result.now in
    let entries : c.self.inside.entries.items ≡ p.entries = ap (λ (s : ProviderState). s.entries) c.self.view_is in
    let read : e ≡ get_or p.entries i e = c.index.ensures ∙ ap (λ (es : List Entry). get_or es i e) entries in
    let count = ap (λ (es : List Entry). length es) entries in
    let held = c.self.inside.entries.ok.0 in
    let within : i < length p.entries = omega (arith, count, held) in
    let room : c.loop-index.start + c.words_of_data.result ≤ words_in p.entries =
    words_room p.entries i e c.loop-index.start c.words_of_data.result within read c.loop-index.invariant.start c.words_of_data.ensures in
    let fits : c.loop-index.start + c.words_of_data.result ≤ length c.args.words.now = omega (arith, room) in search (rules, fits)

pub loop-index-preserved : goal.loop-index-preserved
loop-index-preserved c =
    let p = c.args.self.now in
    let i = c.loop-index.index in
    let e = c.index.result.now in
    let start = c.loop-index.start in
    let places = c.args.places.now in
    let words = c.args.words.now in
    let frames = c.loop-index.frames in
    let entries : c.self.inside.entries.items ≡ p.entries = ap (λ (s : ProviderState). s.entries) c.self.view_is in
    let read : e ≡ get_or p.entries i e = c.index.ensures ∙ ap (λ (es : List Entry). get_or es i e) entries in
    let count = ap (λ (es : List Entry). length es) entries in
    let held = c.self.inside.entries.ok.0 in
    let within : i < length p.entries = omega (arith, count, held) in
    let wide = c.words_of_data.ensures in
    let long : start + c.words_of_data.result - start ≡ data_words e = omega (arith, wide) in
    let next = next_at p places frames i e (get_or places i 0) within read refl c.loop-index.invariant.fits in
    let wrote : c.put_due.new.frames ≡ with_due p c.args.k e (take (data_words e) (drop start words)) (get_or places i 0) frames =
    c.put_due.ensures ∙ ap (λ n. with_due p c.args.k e (take n (drop start words)) (get_or places i 0) frames) long in
    record {
      start = words_step p.entries i e start c.words_of_data.result within read c.loop-index.invariant.start wide;
      fits = places_left p c.args.k places (take (data_words e) (drop start words)) frames c.put_due.new.frames i e (get_or places i 0) next c.requires.apart wrote;
      rest = load_step p c.args.k places words frames c.put_due.new.frames i start (start + c.words_of_data.result) e (get_or places i 0) next
          (ap (λ n. start + n) wide) wrote ∙ c.loop-index.invariant.rest;
    }

pub returns : goal.returns
returns c =
    let p = c.args.self.now in
    let entries : c.self.inside.entries.items ≡ p.entries = ap (λ (s : ProviderState). s.entries) c.self.view_is in
    let count = ap (λ (es : List Entry). length es) entries in
    let held = c.self.inside.entries.ok.0 in
    load_end p c.args.k c.args.places.now c.args.words.now c.args.frames.now c.loop-index.frames c.loop-index.index c.loop-index.start
    (omega (arith, count, held)) c.loop-index.invariant.rest (subst AreAscending entries c.self.invariant.order) c.requires.apart c.requires.places
