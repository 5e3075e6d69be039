-- The store by which a turn empties a READY line.
use Rattle.std.proofs.Common.{◌≡◌, ◌≢◌, ℕ, ◌<◌, ◌⊎◌, ⊎_elim, inl, inr, true, false, List, slice_set, refl, sym, ap, ◌∙◌, subst, arith}
use Rattle.std.specs.Prelude.{Option, Some, None, IfSome}
use Rattle.std.proofs.lemmas.Bool.{cases_eq}
use Rattle.pm_words.specs.declared.layout.Layout.{Layout}
use Rattle.pm_words.specs.Locations.{Word, Header, Line, Location, Clock, Cached, Durable, HasLocation, address_of}
use Rattle.pm_words.specs.Rows.{IsRow}
use Rattle.pm_words.proofs.Apart.{at-set_same, at-set_other}
use Rattle.pm_words.specs.Codes.{empty_state, ready_state}
use Rattle.pm_words.specs.Offsets.{state_offset}
use Rattle.data_node.specs.Spots.{Spot, updated}
use Rattle.data_node.proofs.SpotLemmas.{updated-same, updated-other}
use Rattle.call_stages.specs.Stages.{Tells}
use Rattle.call_stages.specs.Lines.{HeldLine, IsEntry}
use Rattle.index_law.specs.Lawful.{Lawful}
use Rattle.index_law.specs.Lines.{line_in, safe_line, AreFit, IsGiven, SureLine}
use Rattle.index_law.specs.Whole.{Whole, IsWhole}
use Rattle.index_law.proofs.Joint.{sure_same}
use Rattle.index_law.proofs.Noting.{line-alike, line-here, safe-alike, same_spots, beside_law}
use Rattle.index_law.proofs.Prevs.{store_prev}
use Rattle.index_law.proofs.Rows.{facts-elsewhere}
use Rattle.index_law.proofs.Twins.{IsAside, nearer, store_closer}
use Rattle.index_law.proofs.Whole.{traced_same}
use Rattle.index_law.proofs.Places.{caller_at, number_at, offset_at}

-- what its party knows of a READY line stays once that is EMPTY
module _ (l : Layout) (words after : List ℕ) (e : HeldLine) (sure : SureLine l words e) (two : line_in l words e.caller e.number state_offset ≡ ready_state)
    (line : (offset : ℕ) → line_in l after e.caller e.number offset ≡ updated (line_in l words e.caller e.number) state_offset empty_state offset)
    (safe : (offset : ℕ) → safe_line l after e.caller e.number offset ≡ safe_line l words e.caller e.number offset) where
  abbrev now : Spot
  now = line_in l words e.caller e.number

  abbrev later : Spot
  later = line_in l after e.caller e.number

  is_ready : e.ready ≡ true
  is_ready = elim e.ready as (λ b. (b ≡ false → now 0 ≢ 2) → b ≡ true) [
    | true ↦ λ _. refl
    | false ↦ λ unready. absurd (unready refl two)
  ] sure.unready

  other_word : (offset : ℕ) → offset ≢ state_offset → later offset ≡ now offset
  other_word offset other = line offset ∙ updated-other now state_offset empty_state offset other

  ready_again : updated later state_offset ready_state ≡ updated now state_offset ready_state
  ready_again = same_spots (updated later state_offset ready_state) (updated now state_offset ready_state) (λ offset. ⊎_elim
      (λ (first : offset ≡ state_offset). ap (updated later state_offset ready_state) first ∙ updated-same later state_offset ready_state ∙ sym (ap (updated now state_offset ready_state) first ∙ updated-same now state_offset ready_state))
      (λ other. updated-other later state_offset ready_state offset other ∙ other_word offset other ∙ sym (updated-other now state_offset ready_state offset other))
      (cases_eq offset 0))

  abbrev InHand : Spot → ℕ × ℕ → Type 0
  InHand s h = (s h.0 ≡ h.1) ⊎ (IsGiven e h.0 × (h.1 ≡ 2))

  hand_kept : (hand : Option (ℕ × ℕ)) → IfSome hand (InHand now) → IfSome hand (InHand later)
  hand_kept None is = tt
  hand_kept (Some h) is = ⊎_elim
      (λ (first : h.0 ≡ 0). ⊎_elim
      (λ (same : now h.0 ≡ h.1). inr (record { ready = is_ready; state = first }, sym same ∙ ap now first ∙ two))
      (λ given. inr given)
      is)
      (λ (other : h.0 ≢ 0). ⊎_elim
      (λ (same : now h.0 ≡ h.1). inl (other_word h.0 other ∙ same))
      (λ given. inr given)
      is)
      (cases_eq h.0 0)

  pub sure_emptied : SureLine l after e
  sure_emptied =
      let waits = sure.waits is_ready in
      record {
        here = sure.here;
        seen = subst (Tells e.seen) (sym (same_spots later (updated now state_offset empty_state) line)) (waits.blind now empty_state sure.seen);
        clean = λ offset spared given. safe offset ∙ sure.clean offset spared given
            ∙ sym (other_word offset (λ first. given (record { ready = is_ready; state = first })));
        hand = hand_kept e.hand sure.hand;
        unready = λ own. absurd (let no : false ≡ true = sym own ∙ is_ready in cc);
        waits = λ _. record {
          state = inl (line 0 ∙ updated-same now state_offset empty_state);
          entry = subst (IsEntry l) (sym ready_again) waits.entry;
          durable = λ offset other. safe offset ∙ waits.durable offset other ∙ sym (other_word offset other);
          blind = waits.blind;
        };
      }

abbrev word_in : Location → Word
word_in (Cached w) = w
word_in _ = Header 0

-- the row once a line is emptied
module _ (z : Whole) (c j : ℕ) (here : c < z.world.layout.callers) (small : j < 8) where
  open z.world use {layout as l, words}

  abbrev p : Location
  p = Cached (Line c j state_offset)

  abbrev emptied : List ℕ
  emptied = slice_set words (address_of l p) 0

  has : HasLocation l (Cached (Line c j state_offset))
  has = (here, small, omega arith)

  safe_kept : (d k offset : ℕ) → safe_line l emptied d k offset ≡ safe_line l words d k offset
  safe_kept d k offset = safe-alike l words emptied d k offset (λ there. at-set_other l words p (Durable (Line d k offset)) 0 has there (λ e. cc))

  line_else : (d k offset : ℕ) → (d ≢ c) ⊎ ((k ≢ j) ⊎ (offset ≢ state_offset)) → line_in l emptied d k offset ≡ line_in l words d k offset
  line_else d k offset other = line-alike l words emptied d k offset (λ there. at-set_other l words p (Cached (Line d k offset)) 0 has there
      (λ e. ⊎_elim (λ n. n (ap caller_at e)) (λ rest. ⊎_elim (λ n. n (ap number_at e)) (λ n. n (ap offset_at e)) rest) other))

  module _ (row : IsRow z.world.layout z.world.words) where
    state_empty : line_in l emptied c j state_offset ≡ empty_state
    state_empty = line-here l emptied c j state_offset has ∙ at-set_same l words p 0 row.whole has

    line_own : (offset : ℕ) → line_in l emptied c j offset ≡ updated (line_in l words c j) state_offset empty_state offset
    line_own offset = ⊎_elim
        (λ (first : offset ≡ state_offset). ap (line_in l emptied c j) first ∙ state_empty ∙ sym (ap (updated (line_in l words c j) state_offset empty_state) first ∙ updated-same (line_in l words c j) state_offset empty_state))
        (λ other. line_else c j offset (inr (inr other)) ∙ sym (updated-other (line_in l words c j) state_offset empty_state offset other))
        (cases_eq offset 0)

    -- each word of a line is another only if it is that state
    pub line_either : (d k offset : ℕ) → ((offset ≡ state_offset) × (line_in l emptied d k offset ≡ empty_state)) ⊎ (line_in l emptied d k offset ≡ line_in l words d k offset)
    line_either d k offset = ⊎_elim
        (λ (one : d ≡ c). ⊎_elim
        (λ (two : k ≡ j). ⊎_elim
        (λ (three : offset ≡ state_offset). inl (three, (λ i. line_in l emptied (one i) (two i) (three i)) ∙ state_empty))
        (λ other. inr (line_else d k offset (inr (inr other))))
        (cases_eq offset 0))
        (λ other. inr (line_else d k offset (inr (inl other))))
        (cases_eq k j))
        (λ other. inr (line_else d k offset (inl other)))
        (cases_eq d c)

    fit_emptied : AreFit l words → AreFit l emptied
    fit_emptied fit d k mix is = ⊎_elim
        (λ (empty : mix 0 ≡ 0). inl empty)
        (λ (other : mix 0 ≢ 0). fit d k mix (λ offset. ⊎_elim
        (λ durably. inl (durably ∙ safe_kept d k offset))
        (λ cached. ⊎_elim
        (λ (empty : (offset ≡ state_offset) × (line_in l emptied d k offset ≡ empty_state)). absurd (other (ap mix (sym empty.0) ∙ cached ∙ empty.1)))
        (λ same. inr (cached ∙ same))
        (line_either d k offset))
        (is offset)))
        (cases_eq (mix 0) 0)

    lawful_emptied : IsRow l emptied → Lawful z.world → Lawful (record (z.world) { words = emptied })
    lawful_emptied row' lawful = beside_law z.world emptied lawful row'
        (facts-elsewhere l words z.world.base z.world.history p 0 has (λ n o d. cc, λ n d. cc))
        (nearer l words emptied (store_closer l words p 0 has (λ v e. cc)))
        (at-set_other l words p Clock 0 has tt (λ e. cc))
        (λ v there aside. at-set_other l words p (Cached v) 0 has there (λ e. aside (subst IsAside (sym (ap word_in e)) tt)))

    sure_after : line_in l words c j state_offset ≡ ready_state → (e : HeldLine) → SureLine l words e → SureLine l emptied e
    sure_after two e sure = ⊎_elim
        (λ (one : e.caller ≡ c). ⊎_elim
        (λ (other : e.number ≡ j). sure_emptied l words emptied e sure
        ((λ i. line_in l words (one i) (other i) state_offset) ∙ two)
        (λ offset. (λ i. line_in l emptied (one i) (other i) offset) ∙ line_own offset ∙ (λ i. updated (line_in l words (sym one i) (sym other i)) state_offset empty_state offset))
        (λ offset. safe_kept e.caller e.number offset))
        (λ other. sure_same l words emptied e (λ offset. line_else e.caller e.number offset (inr (inl other))) (λ offset. safe_kept e.caller e.number offset) sure)
        (cases_eq e.number j))
        (λ other. sure_same l words emptied e (λ offset. line_else e.caller e.number offset (inl other)) (λ offset. safe_kept e.caller e.number offset) sure)
        (cases_eq e.caller c)

    pub emptied_whole : line_in l words c j state_offset ≡ ready_state → IsRow l emptied → IsWhole z → IsWhole (record z { world = record (z.world) { words = emptied } })
    emptied_whole two row' whole =
        let lawful = lawful_emptied row' whole.joint.lawful in
        record {
          joint = record {
            lawful = lawful;
            fit = fit_emptied whole.joint.fit;
            sure = λ i e there. sure_after two e (whole.joint.sure i e there);
            owned = whole.joint.owned;
            callers = whole.joint.callers;
          };
          traced = traced_same (record { world = z.world; debts = z.debts }) emptied whole.traced lawful
              (facts-elsewhere l words z.world.base z.world.history p 0 has (λ n o d. cc, λ n d. cc))
              (λ n. store_prev l words p 0 has (λ k d. cc) n);
        }
