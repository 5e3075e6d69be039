-- Steps on nodes and steps on lines, together.
use Rattle.std.proofs.Common.{◌≡◌, ◌≢◌, ℕ, ◌<◌, ◌≤◌, ◌⊎◌, inl, inr, ⊎_elim, Bool, true, false, cond, ◌&&◌, List, [], ◌∷◌, set, refl, sym, ap, ◌∙◌, subst, arith}
use Rattle.std.specs.Prelude.{nat_lt, Option, Some, None, IfSome}
use Rattle.std.proofs.lemmas.Bool.{le-ltb, cases_lt, cases_eq}
use Rattle.std.proofs.lemmas.List.{set-get_or}
use mathlib.Core.Option.{some, some-injective}
use lib.ListN.{get_elem?}
use Rattle.pm_words.specs.declared.layout.Layout.{Layout}
use Rattle.pm_words.specs.declared.action.Action.TheVariants.{Load}
use Rattle.pm_words.specs.Locations.{Line, Cached, Durable, HasWord, at}
use Rattle.pm_words.specs.Rows.{acted}
use Rattle.pm_words.specs.Offsets.{state_offset}
use Rattle.data_node.specs.Spots.{Spot}
use Rattle.call_stages.specs.Stages.{Tells}
use Rattle.call_stages.specs.Lines.{HeldLine, line_address, passes_line, takes}
use Rattle.index_law.specs.Worlds.{Party, facts, moved_on}
use Rattle.index_law.specs.Lawful.{Lawful}
use Rattle.index_law.specs.Laws.{Allowed}
use Rattle.index_law.specs.Lines.{line_in, safe_line, AreFit, IsGiven, IsWaiting, SureLine, NoteLaw}
use Rattle.index_law.specs.Joint.{Joint, IsOwned, IsJoint, NodeStepKeeps, LineStepKeeps}
use Rattle.index_law.proofs.Law.{step_law}
use Rattle.index_law.proofs.Noting.{nodes_leave_lines, notes_law, line-here, same_spots}
use Rattle.index_law.proofs.Own.{allow_law, sure_within}
use Rattle.index_law.proofs.Parties.{at_set, set_here, set_else}

-- a line whose words, both twins, are the same
pub sure_same : (l : Layout) (words words' : List ℕ) (e : HeldLine) → ((offset : ℕ) → line_in l words' e.caller e.number offset ≡ line_in l words e.caller e.number offset)
    → ((offset : ℕ) → safe_line l words' e.caller e.number offset ≡ safe_line l words e.caller e.number offset) → SureLine l words e → SureLine l words' e
sure_same l words words' e line safe sure =
    let is : line_in l words' e.caller e.number ≡ line_in l words e.caller e.number = same_spots (line_in l words' e.caller e.number) (line_in l words e.caller e.number) line in
    record {
      here = sure.here;
      seen = subst (Tells e.seen) (sym is) sure.seen;
      clean = λ offset spared given. safe offset ∙ sure.clean offset spared given ∙ sym (line offset);
      hand = hand_same e.hand sure.hand;
      unready = λ own two. sure.unready own (sym (line 0) ∙ two);
      waits = λ ready. subst (λ (s : Spot). IsWaiting l e.seen s (safe_line l words' e.caller e.number)) (sym is) (subst (IsWaiting l e.seen (line_in l words e.caller e.number)) (sym durably) (sure.waits ready));
    }
  where
    durably : safe_line l words' e.caller e.number ≡ safe_line l words e.caller e.number
    durably = same_spots (safe_line l words' e.caller e.number) (safe_line l words e.caller e.number) safe

    InHand : List ℕ → ℕ × ℕ → Type 0
    InHand ws h = (line_in l ws e.caller e.number h.0 ≡ h.1) ⊎ (IsGiven e h.0 × (h.1 ≡ 2))

    hand_same : (hand : Option (ℕ × ℕ)) → IfSome hand (InHand words) → IfSome hand (InHand words')
    hand_same None is = tt
    hand_same (Some h) is = ⊎_elim (λ same. inl (line h.0 ∙ same)) (λ given. inr given) is

pub fit_same : (l : Layout) (words words' : List ℕ) → ((c j offset : ℕ) → (line_in l words' c j offset ≡ line_in l words c j offset) × (safe_line l words' c j offset ≡ safe_line l words c j offset))
    → AreFit l words → AreFit l words'
fit_same l words words' same fit c j mix is =
    fit c j mix (λ offset. ⊎_elim (λ durably. inl (durably ∙ (same c j offset).1)) (λ cached. inr (cached ∙ (same c j offset).0)) (is offset))

module _ (parties : List Party) (i : ℕ) (p q : Party) (there : get_elem? parties i ≡ some p) (same : q.caller ≡ p.caller) where
  -- a party of the same caller in place of one
  owned_set : (j : ℕ) (e : HeldLine) → IsOwned parties j e → IsOwned (set parties i q) j e
  owned_set j e owned = elim (cases_number j) [
    | inl one ↦ record {
      party = q;
      there = ap (get_elem? (set parties i q)) one ∙ set_here parties i q p there;
      own = owned.own ∙ ap (λ (d : Party). d.caller) (some-injective _ _ (sym owned.there ∙ ap (get_elem? parties) one ∙ there)) ∙ sym same;
    }
    | inr other ↦ record { party = owned.party; there = set_else parties i j q other ∙ owned.there; own = owned.own }
  ]
    where
      cases_number : (j : ℕ) → (j ≡ i) ⊎ (j ≢ i)
      cases_number j = cases_eq j i

  callers_set : ((u v : ℕ) (b d : Party) → get_elem? parties u ≡ some b → get_elem? parties v ≡ some d → b.caller ≡ d.caller → u ≡ v)
      → (u v : ℕ) (b d : Party) → get_elem? (set parties i q) u ≡ some b → get_elem? (set parties i q) v ≡ some d → b.caller ≡ d.caller → u ≡ v
  callers_set callers u v b d at_u at_v alike = ⊎_elim
      (λ (first : (u ≡ i) × (q ≡ b)). ⊎_elim
      (λ (second : (v ≡ i) × (q ≡ d)). first.0 ∙ sym second.0)
      (λ (second : (v ≢ i) × (get_elem? parties v ≡ some d)). first.0 ∙ callers i v p d there second.1 (sym same ∙ ap (λ (z : Party). z.caller) first.1 ∙ alike))
      (at_set parties i v q d at_v))
      (λ (first : (u ≢ i) × (get_elem? parties u ≡ some b)). ⊎_elim
      (λ (second : (v ≡ i) × (q ≡ d)). callers u i b p first.1 there (alike ∙ sym (ap (λ (z : Party). z.caller) second.1) ∙ same) ∙ sym second.0)
      (λ (second : (v ≢ i) × (get_elem? parties v ≡ some d)). callers u v b d first.1 second.1 alike)
      (at_set parties i v q d at_v))
      (at_set parties i u q b at_u)

pub node_step : NodeStepKeeps
node_step z i p a x t r line after joint there at kept k told room =
    let w = z.world in
    let l = w.layout in
    let sure = joint.lawful.sure i p there in
    let allowed : Allowed l p.stage a = allow_law l w.generation p.stage a x t r (sure_within l w.generation (facts w) p.caller p.index p.since p.stage sure) k in
    let stay = λ (c j offset : ℕ). nodes_leave_lines l w.words p.stage a c j offset allowed in
    record {
      lawful = (step_law w i p a x t r joint.lawful there k told room).kept;
      fit = fit_same l w.words (acted l w.words a) stay joint.fit;
      sure = λ j e is. ⊎_elim
          (λ (one : (j ≡ i) × (after ≡ Some e)). ⊎_elim
          (λ same. sure_same l w.words (acted l w.words a) e (λ o. (stay e.caller e.number o).0) (λ o. (stay e.caller e.number o).1) (joint.sure i e (at ∙ ap some (sym same ∙ one.1))))
          (λ none. absurd (let no : None ≡ Some e = sym none ∙ one.1 in cc))
          kept)
          (λ (other : (j ≢ i) × (get_elem? z.lines j ≡ some (Some e))).
          sure_same l w.words (acted l w.words a) e (λ o. (stay e.caller e.number o).0) (λ o. (stay e.caller e.number o).1) (joint.sure j e other.1))
          (at_set z.lines i j after (Some e) is);
      owned = λ j e is. owned_set w.parties i p (moved_on p t) there refl j e (⊎_elim
          (λ (one : (j ≡ i) × (after ≡ Some e)). ⊎_elim
          (λ same. joint.owned j e (ap (get_elem? z.lines) one.0 ∙ at ∙ ap some (sym same ∙ one.1)))
          (λ none. absurd (let no : None ≡ Some e = sym none ∙ one.1 in cc))
          kept)
          (λ (other : (j ≢ i) × (get_elem? z.lines j ≡ some (Some e))). joint.owned j e other.1)
          (at_set z.lines i j after (Some e) is));
      callers = callers_set w.parties i p (moved_on p t) there refl joint.callers;
    }

-- past its words a line is 0
unlined : (l : Layout) (words : List ℕ) (c j offset : ℕ) → 8 ≤ offset → safe_line l words c j offset ≡ line_in l words c j offset
unfolding safe_line line_in
unlined l words c j offset past =
    let out : Bool → ℕ → ℕ = λ b x. cond (nat_lt c l.callers && (nat_lt j 8 && b)) x 0 in
    let durable : ℕ = at l words (Durable (Line c j offset)) in
    let cached : ℕ = at l words (Cached (Line c j offset)) in
    let far : nat_lt offset 8 ≡ false = le-ltb offset 8 past in
    ap (λ b. out b durable) far ∙ none (nat_lt c l.callers) (nat_lt j 8) durable cached ∙ sym (ap (λ b. out b cached) far)
  where
    none : (a b : Bool) (x y : ℕ) → cond (a && (b && false)) x 0 ≡ cond (a && (b && false)) y 0
    none true true x y = refl
    none true false x y = refl
    none false b x y = refl

-- what a step on a line of this caller's makes of each line
module _ (z : Joint) (i : ℕ) (p : Party) (joint : IsJoint z) (there : get_elem? z.world.parties i ≡ some p) (words : List ℕ) (lawful : Lawful (record (z.world) { words = words }))
    (fit : AreFit z.world.layout words) (after : Option HeldLine) (sure : IfSome after (SureLine z.world.layout words)) (own : IfSome after (λ e. e.caller ≡ p.caller))
    (others : (c j offset : ℕ) → c ≢ p.caller → (line_in z.world.layout words c j offset ≡ line_in z.world.layout z.world.words c j offset)
    × (safe_line z.world.layout words c j offset ≡ safe_line z.world.layout z.world.words c j offset)) where
  joined : IsJoint (record { world = record (z.world) { words = words }; lines = set z.lines i after })
  joined = record {
    lawful = lawful;
    fit = fit;
    sure = λ j e is. ⊎_elim
        (λ (one : (j ≡ i) × (after ≡ Some e)). subst (λ o. IfSome o (SureLine z.world.layout words)) one.1 sure)
        (λ (other : (j ≢ i) × (get_elem? z.lines j ≡ some (Some e))).
        let owned = joint.owned j e other.1 in
        let apart : e.caller ≢ p.caller = (λ same. other.0 (joint.callers j i owned.party p owned.there there (sym owned.own ∙ same))) in
        sure_same z.world.layout z.world.words words e (λ o. (others e.caller e.number o apart).0) (λ o. (others e.caller e.number o apart).1) (joint.sure j e other.1))
        (at_set z.lines i j after (Some e) is);
    owned = λ j e is. ⊎_elim
        (λ (one : (j ≡ i) × (after ≡ Some e)). record {
          party = p;
          there = ap (get_elem? z.world.parties) one.0 ∙ there;
          own = subst (λ o. IfSome o (λ d. d.caller ≡ p.caller)) one.1 own;
        })
        (λ (other : (j ≢ i) × (get_elem? z.lines j ≡ some (Some e))). joint.owned j e other.1)
        (at_set z.lines i j after (Some e) is);
    callers = joint.callers;
  }

pub line_step : LineStepKeeps
line_step z i p a x None after joint there at (passes_line {c = c} {j = j} {offset = offset} here low small) own told =
    let same : acted z.world.layout z.world.words (Load (line_address z.world.layout c j offset)) ≡ z.world.words = set-get_or z.world.words (line_address z.world.layout c j offset) 0 in
    subst (λ v. IsJoint (record { world = record (z.world) { words = v }; lines = set z.lines i None })) (sym same)
    (joined z i p joint there z.world.words joint.lawful joint.fit None tt own (λ d k o other. (refl, refl)))
line_step z i p a x None after joint there at (takes {c = c} {j = j} here low empty_state) own told =
    let l = z.world.layout in
    let words = z.world.words in
    let address = line_address l c j state_offset in
    let same : acted l words (Load address) ≡ words = set-get_or words address 0 in
    let has : HasWord l (Line c j state_offset) = (here, low, omega arith) in
    subst (λ v. IsJoint (record { world = record (z.world) { words = v }; lines = set z.lines i (Some (record { caller = c; number = j; seen = (0, x) ∷ []; dirty = (0, 8) ∷ []; hand = None; ready = false })) })) (sym same)
    (joined z i p joint there words joint.lawful joint.fit (Some (record { caller = c; number = j; seen = (0, x) ∷ []; dirty = (0, 8) ∷ []; hand = None; ready = false }))
    (record {
      here = (here, low);
      seen = (line-here l words c j state_offset has ∙ sym told, tt);
      clean = λ offset spared given. ⊎_elim
          (λ (below : offset < 8). absurd (spared (inl (omega arith, below))))
          (λ (past : 8 ≤ offset). unlined l words c j offset past)
          (cases_lt offset 8);
      hand = tt;
      unready = λ is two. let state : line_in l words c j state_offset ≡ x = line-here l words c j state_offset has ∙ sym told in omega arith;
      waits = λ ready. absurd (let no : false ≡ true = ready in cc);
    }) own (λ d k o other. (refl, refl)))
line_step z i p a x (Some e) after joint there at k own told =
    let w = z.world in
    let law : NoteLaw w a e after = notes_law w e a x after joint.lawful joint.fit (joint.sure i e at) k told in
    let owned = joint.owned i e at in
    let mine : e.caller ≡ p.caller = owned.own ∙ ap (λ (d : Party). d.caller) (some-injective _ _ (sym owned.there ∙ there)) in
    joined z i p joint there (acted w.layout w.words a) law.kept law.fit after law.sure own (λ c j o other. law.others c j o (λ same. other (same ∙ mine)))
