use Rattle.std.proofs.Common.{◌≡◌, List, map, Some, None, refl, ap, sym, ◌∙◌, subst}
use Rattle.iso_station.specs.Consumer.{ConsumerState, if_frame, with_frame}
use Rattle.iso_station.specs.Held.{Held}
use Rattle.iso_station.specs.Kept.{AreInOrder}
use Rattle.iso_station.specs.Taking.{taking_place}
use Rattle.iso_station.proofs.InPlace.{order_mapped}
use Rattle.iso_station.proofs.TakingLemmas.{kept_at, is_taken, is_ignored, exclusive, same_fields, same_kept, kept_set, if_frame_entry}
use Rattle.rtc3_frame.specs.Frame.{Fields, fields_at, fields_of}
use Rattle.iso_station.proofs.consumer.Consumer.accept.Goals as goal

pub returns-in_default-taking-clause-taken : goal.returns-in_default-taking-clause-taken
returns-in_default-taking-clause-taken c =
    let state = c.args.self.now in
    let f = fields_of c.in-Ok.read in
    let none : taking_place state.factor state.cycle state.frames f ≡ None =
    ap (λ n. taking_place state.factor n state.frames f) (sym c.requires.cycle) ∙ sym c.taking.ensures ∙ c.in_default-taking.is in
    (λ is. absurd (cc), λ taken. absurd (exclusive state c.args.frame.now taken (is_ignored state c.args.frame.now f c.in-Ok.ensures.exact none)))

pub returns-in_default-taking-clause-ignored : goal.returns-in_default-taking-clause-ignored
returns-in_default-taking-clause-ignored c =
    let state = c.args.self.now in
    let f = fields_of c.in-Ok.read in
    let none : taking_place state.factor state.cycle state.frames f ≡ None =
    ap (λ n. taking_place state.factor n state.frames f) (sym c.requires.cycle) ∙ sym c.taking.ensures ∙ c.in_default-taking.is in
    (λ is. is_ignored state c.args.frame.now f c.in-Ok.ensures.exact none, λ ignored. refl)

pub put-requires : goal.put-requires
put-requires c =
    let state = c.args.self.now in
    let f = fields_of c.in-Ok.read in
    let some : taking_place state.factor state.cycle state.frames f ≡ Some c.in-Some.place =
    ap (λ n. taking_place state.factor n state.frames f) (sym c.requires.cycle) ∙ sym c.taking.ensures ∙ c.in-Some.is in
    let at = kept_at state f c.in-Some.place some in
    let same = same_kept state f c.in-Some.place at c.self.inside.frames.items c.index_mut-held.result.now (ap (λ (s : ConsumerState). s.frames) c.self.view_is) c.index_mut-held.ensures.value in
    sym at.long ∙ ap (λ (h : Held). h.entry.data_length) same

pub invariant_of-self : goal.invariant_of-self
invariant_of-self c =
    let state = c.args.self.now in
    let f = fields_of c.in-Ok.read in
    let some : taking_place state.factor state.cycle state.frames f ≡ Some c.in-Some.place =
    ap (λ n. taking_place state.factor n state.frames f) (sym c.requires.cycle) ∙ sym c.taking.ensures ∙ c.in-Some.is in
    let at = kept_at state f c.in-Some.place some in
    let frames = ap (λ (s : ConsumerState). s.frames) c.self.view_is in
    let is = kept_set state f c.in-Some.place at c.self.inside.frames.items c.index_mut-held.result.now c.put.new.self frames c.self.invariant c.index_mut-held.ensures.value c.put.ensures in
    subst AreInOrder (sym is) (order_mapped (if_frame f) (if_frame_entry f) state.frames (subst AreInOrder frames c.self.invariant))

pub returns-clause-taken : goal.returns-clause-taken
returns-clause-taken c =
    let state = c.args.self.now in
    let f = fields_of c.in-Ok.read in
    let some : taking_place state.factor state.cycle state.frames f ≡ Some c.in-Some.place =
    ap (λ n. taking_place state.factor n state.frames f) (sym c.requires.cycle) ∙ sym c.taking.ensures ∙ c.in-Some.is in
    (λ is. is_taken state c.args.frame.now f c.in-Some.place c.in-Ok.ensures.exact some, λ taken. refl)

pub returns-clause-ignored : goal.returns-clause-ignored
returns-clause-ignored c =
    let state = c.args.self.now in
    let f = fields_of c.in-Ok.read in
    let some : taking_place state.factor state.cycle state.frames f ≡ Some c.in-Some.place =
    ap (λ n. taking_place state.factor n state.frames f) (sym c.requires.cycle) ∙ sym c.taking.ensures ∙ c.in-Some.is in
    (λ is. absurd (cc), λ ignored. absurd (exclusive state c.args.frame.now (is_taken state c.args.frame.now f c.in-Some.place c.in-Ok.ensures.exact some) ignored))

pub returns-clause-kept : goal.returns-clause-kept
returns-clause-kept c =
    let state = c.args.self.now in
    let f = fields_of c.in-Ok.read in
    let some : taking_place state.factor state.cycle state.frames f ≡ Some c.in-Some.place =
    ap (λ n. taking_place state.factor n state.frames f) (sym c.requires.cycle) ∙ sym c.taking.ensures ∙ c.in-Some.is in
    let at = kept_at state f c.in-Some.place some in
    let frames = ap (λ (s : ConsumerState). s.frames) c.self.view_is in
    let is = kept_set state f c.in-Some.place at c.self.inside.frames.items c.index_mut-held.result.now c.put.new.self frames c.self.invariant c.index_mut-held.ensures.value c.put.ensures in
    let Over : List Held → ConsumerState = λ hs. record { factor = c.self.inside.factor; cycle = c.self.inside.cycle; frames = hs } in
    λ g taken told.
    let one : f ≡ g = same_fields (fields_at c.args.frame.now) f g c.in-Ok.ensures.exact told in
    ap Over is ∙ ap (λ (s : ConsumerState). record s { frames = map (if_frame f) state.frames }) c.self.view_is ∙ ap (λ (x : Fields). with_frame x state) one
