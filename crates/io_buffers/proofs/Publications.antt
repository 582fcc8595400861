-- The exchange on one thread keeps two of the publications.
use Rattle.std.proofs.Common.{ℕ, ◌+◌, List, [], ◌∷◌, ◌++◌, replicate, refl, sym, ◌∙◌, arith}
use Rattle.std.proofs.Math.ListN.{get_or-append}
use Rattle.std.proofs.Math.Nat.{le_refl}
use Rattle.std.proofs.lemmas.List.{length-append}
use Rattle.swap_core.proofs.Sound.{newest_is}
use Rattle.io_buffers.specs.Plain.{Plain, Call, Publishes, Takes, first_plain, after_publish, after_take, plain_after, published_by, held_by, KeepsTwo}

keeps_publish : (ps : List (List ℕ)) (held : ℕ) (e : Plain) (words : List ℕ) → KeepsTwo ps held e → KeepsTwo (ps ++ words ∷ []) held (after_publish e words)
keeps_publish ps held e words h = record {
  count = let n = length-append ps (words ∷ []) in let c = h.count in omega arith;
  order = let o = h.order in omega arith;
  newest_words = sym (newest_is ps words (e.newest + 1) h.count);
  held = h.held;
  held_words = h.held_words ∙ sym (get_or-append ps (words ∷ []) [] e.held (let o = h.order in let c = h.count in omega arith));
}

keeps_take : (ps : List (List ℕ)) (held : ℕ) (e : Plain) → KeepsTwo ps held e → KeepsTwo ps e.newest (after_take e)
keeps_take ps held e h = record {
  count = h.count;
  order = le_refl e.newest;
  newest_words = h.newest_words;
  held = refl;
  held_words = h.newest_words;
}

keeps_calls : (ps : List (List ℕ)) (held : ℕ) (e : Plain) (calls : List Call) → KeepsTwo ps held e → KeepsTwo (published_by ps calls) (held_by held e.newest calls) (plain_after e calls)
keeps_calls ps held e [] h = h
keeps_calls ps held e (Publishes words ∷ calls) h = keeps_calls (ps ++ words ∷ []) held (after_publish e words) calls (keeps_publish ps held e words h)
keeps_calls ps held e (Takes ∷ calls) h = keeps_calls ps e.newest (after_take e) calls (keeps_take ps held e h)

pub keeps_two : (m : ℕ) (calls : List Call) → KeepsTwo (published_by (replicate m 0 ∷ []) calls) (held_by 0 0 calls) (plain_after (first_plain m) calls)
keeps_two m calls =
    keeps_calls (replicate m 0 ∷ []) 0 (first_plain m) calls
    (record { count = refl; order = le_refl 0; newest_words = refl; held = refl; held_words = refl })
