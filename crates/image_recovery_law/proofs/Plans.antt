-- What is planned on the first image serves at every moment, and leads from one move to the next.
use Rattle.std.proofs.Common.{◌≡◌, ◌≢◌, ℕ, suc, ◌<◌, ◌⊎◌, Bool, true, false, List, [], ◌∷◌, inl, inr, refl, sym, subst, ◌∙◌}
use Rattle.pm_words.specs.declared.layout.Layout.{Layout}
use Rattle.pm_words.specs.Codes.{empty_state}
use Rattle.pm_words.specs.Offsets.{bitmap_offset, state_offset}
use Rattle.cat_key.specs.Names.{IsName, words_of}
use Rattle.data_node.specs.Slots.{IsLive}
use Rattle.data_node.specs.Spots.{Spot, updated, IsTidy, IsLiveIn, name_words}
use Rattle.data_node.specs.Lists.{ListNode, range_in, IsIn, StaysIn}
use Rattle.data_node.proofs.SpotLemmas.{updated-same, updated-other}
use Rattle.image_recovery_law.specs.Columns.{Columns, anchor_of, line_anchor, IsSound, IsTrim, Mends}
use Rattle.image_recovery_law.specs.Stages.{HasAnchor, LacksAnchor, Stage, Begins, Trims, Unsets, Sets, Empties, Wakes, Step, passes_node, all_trimmed, passes_unset, all_unset, passes_set, all_set, passes_empty, all_empty, Sure}
use Rattle.image_recovery_law.specs.Moves.{Move, Plan, raise, trim, leaves_node, to_unsets, unset_line, leaves_unset, to_sets, set_line, leaves_set, to_empties, empty_line, leaves_empty, ends, raises_now, trims_now, unsets_now, sets_now, empties_now, IsNext, PlanReaches, PlanEnds, PlannedBitsServe, PlannedNoneServes}
use Rattle.image_recovery_law.proofs.Alike.{AlikeBut, name_kept}
use Rattle.image_recovery_law.proofs.Steps.{steps_keep, anchors_now, lines_now}

module _ (slots : ℕ) (range : List ℕ → Bool) (s t : Spot) (bits : ℕ) (same : AlikeBut s t) (tidy : IsTidy slots s) (now : IsTrim slots range s (t bitmap_offset)) (trim : IsTrim slots range s bits) (stays : StaysIn slots range (updated s bitmap_offset bits)) where
  with_bits : (v : Spot) → AlikeBut v (updated v bitmap_offset bits)
  with_bits v offset ne = updated-other v bitmap_offset bits offset ne

  bits_here : (v : Spot) → updated v bitmap_offset bits bitmap_offset ≡ bits
  bits_here v = updated-same v bitmap_offset bits

  -- a slot that is live in the bits has a name in the range
  in_range : (slot : ℕ) → slot < slots → IsLive bits slot → (name : List ℕ) → IsName name → words_of name ≡ name_words s slot → range name ≡ true
  in_range slot lt live name is words = by_cases (range name) refl
    where
      by_cases : (b : Bool) → range name ≡ b → b ≡ true
      by_cases true e = refl
      by_cases false e = absurd (stays name is e slot lt (subst (λ b. IsLive b slot) (sym (bits_here s)) live) (name_kept s (updated s bitmap_offset bits) slot (with_bits s) ∙ sym words))

  bits_serve : IsTrim slots range t bits × StaysIn slots range (updated t bitmap_offset bits)
  bits_serve = (
    record {
      bounded = trim.bounded;
      less = λ slot lt live.
          let live_first : IsLiveIn s slot = trim.less slot lt live in
          let name = tidy.named slot lt live_first in
          now.keeps slot name.0 lt live_first name.1 (in_range slot lt live name.0 name.1 name.2) (sym name.2);
      keeps = λ slot name lt live is inside words. trim.keeps slot name lt (now.less slot lt live) is inside (sym (name_kept s t slot same) ∙ words);
    },
    λ name is outside slot lt live words.
        stays name is outside slot lt (subst (λ b. IsLive b slot) (bits_here t ∙ sym (bits_here s)) live)
        (name_kept s (updated s bitmap_offset bits) slot (with_bits s) ∙ sym (name_kept s t slot same) ∙ sym (name_kept t (updated t bitmap_offset bits) slot (with_bits t)) ∙ words),
  )

pub planned_bits_serve : PlannedBitsServe
planned_bits_serve l list o now n bits sound mends is trims =
    let serve = bits_serve l.slots (range_in list n) (o.spot n) (now.spot n) bits (mends.nodes.words n) (sound.nodes.tidy n is) (mends.nodes.bits n is) trims.trim trims.stays in
    record { trim = serve.0; stays = serve.1 }

pub planned_none_serves : PlannedNoneServes
planned_none_serves l list o now n mends is stays = let trimmed = mends.nodes.bits n is in λ name named outside slot lt live words.
    stays name named outside slot lt (trimmed.less slot lt live) (sym (name_kept (o.spot n) (now.spot n) slot (mends.nodes.words n)) ∙ words)

module _ (l : Layout) (list : List ListNode) (o now safe : Columns) (sound : IsSound l list o) where
  -- steps that change nothing
  pass : {s s' : Stage} → Step l list now safe s s' now safe → Sure l list o s now safe → Sure l list o s' now safe
  pass {s = s} {s' = s'} step sure = steps_keep l list o now safe now safe s s' sound sure step

  has_now : (j : ℕ) → Mends l list o now → HasAnchor list o j → (n : ℕ) × IsIn list n × (anchor_of now n ≡ line_anchor now j)
  has_now j mends has = (has.0, has.1, anchors_now l list o sound now safe mends.nodes has.0 ∙ has.2 ∙ sym (lines_now l list o sound now safe mends.nodes j))

  lacks_now : (j : ℕ) → Mends l list o now → LacksAnchor list o j → (n : ℕ) → IsIn list n → anchor_of now n ≢ line_anchor now j
  lacks_now j mends none n is e = none n is (sym (anchors_now l list o sound now safe mends.nodes n) ∙ e ∙ lines_now l list o sound now safe mends.nodes j)

  -- silent steps by their premises on the first image
  past_node : (n : ℕ) (left : List ℕ) → IsIn list n → Sure l list o (Trims (n ∷ left)) now safe → StaysIn l.slots (range_in list n) (o.spot n) → Sure l list o (Trims left) now safe
  past_node n left is sure stays = pass (passes_node n left (planned_none_serves l list o now n sure.0.cached is stays)) sure

  past_unset : (j : ℕ) → Sure l list o (Unsets j) now safe → (o.line j state_offset ≡ empty_state) ⊎ HasAnchor list o j → Sure l list o (Unsets (suc j)) now safe
  past_unset j sure why = pass (passes_unset j (elim why [ inl none ↦ inl (sure.1 j ∙ none) | inr has ↦ inr (has_now j sure.0.cached has) ])) sure

  past_set : (j : ℕ) → Sure l list o (Sets j) now safe → (o.line j state_offset ≡ empty_state) ⊎ LacksAnchor list o j → Sure l list o (Sets (suc j)) now safe
  past_set j sure why = pass (passes_set j (elim why [ inl none ↦ inl (sure.1 j ∙ none) | inr lacks ↦ inr (lacks_now j sure.0.cached lacks) ])) sure

  past_empty : (j : ℕ) → Sure l list o (Empties j) now safe → o.line j state_offset ≡ empty_state → Sure l list o (Empties (suc j)) now safe
  past_empty j sure none = pass (passes_empty j (elim (sure.0.cached.states j) [ inl same ↦ same ∙ none | inr gone ↦ gone.empty ])) sure

  reaches : {s : Stage} {m : Move} {ms : List Move} → Plan l list o s (m ∷ ms) → Sure l list o s now safe → IsNext l list o now safe m ms
  reaches (raise plan) sure = record { stage = Begins; sure = sure; takes = raises_now plan }
  reaches (trim n bits {left = left} is trims plan) sure = record { stage = Trims (n ∷ left); sure = sure; takes = trims_now n bits is trims plan }
  reaches (leaves_node n {left = left} is stays plan) sure = reaches plan (past_node n left is sure stays)
  reaches (to_unsets plan) sure = reaches plan (pass all_trimmed sure)
  reaches (unset_line j busy none plan) sure = record { stage = Unsets j; sure = sure; takes = unsets_now j busy none plan }
  reaches (leaves_unset j why plan) sure = reaches plan (past_unset j sure why)
  reaches (to_sets j past plan) sure = reaches plan (pass (all_unset j past) sure)
  reaches (set_line j n busy is anchor plan) sure = record { stage = Sets j; sure = sure; takes = sets_now j n busy is anchor plan }
  reaches (leaves_set j why plan) sure = reaches plan (past_set j sure why)
  reaches (to_empties j past plan) sure = reaches plan (pass (all_set j past) sure)
  reaches (empty_line j busy plan) sure = record { stage = Empties j; sure = sure; takes = empties_now j busy plan }
  reaches (leaves_empty j none plan) sure = reaches plan (past_empty j sure none)

  comes_to_end : {s : Stage} → Plan l list o s [] → Sure l list o s now safe → Sure l list o Wakes now safe
  comes_to_end (leaves_node n {left = left} is stays plan) sure = comes_to_end plan (past_node n left is sure stays)
  comes_to_end (to_unsets plan) sure = comes_to_end plan (pass all_trimmed sure)
  comes_to_end (leaves_unset j why plan) sure = comes_to_end plan (past_unset j sure why)
  comes_to_end (to_sets j past plan) sure = comes_to_end plan (pass (all_unset j past) sure)
  comes_to_end (leaves_set j why plan) sure = comes_to_end plan (past_set j sure why)
  comes_to_end (to_empties j past plan) sure = comes_to_end plan (pass (all_set j past) sure)
  comes_to_end (leaves_empty j none plan) sure = comes_to_end plan (past_empty j sure none)
  comes_to_end (ends j past) sure = pass (all_empty j past) sure

pub plan_reaches : PlanReaches
plan_reaches l list o now safe s m ms sound sure plan = reaches l list o now safe sound plan sure

pub plan_ends : PlanEnds
plan_ends l list o now safe s sound sure plan = comes_to_end l list o now safe sound plan sure
