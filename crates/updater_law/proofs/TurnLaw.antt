-- A step of the turn keeps the law.
use Rattle.std.proofs.Common.{◌≡◌, ◌≢◌, ℕ, suc, ◌<◌, ◌==◌, ◌⊎◌, true, false, cond, Option, Some, None, inl, inr, refl, sym, subst, ap, ◌∙◌, arith}
use Rattle.std.proofs.lemmas.Bool.{cases_eq, eqb-true}
use Rattle.pm_words.specs.Codes.{empty_state, free_status, gone_status, live_status, merge_kind, ready_state}
use Rattle.layer_map.specs.Layers.{AreSame}
use Rattle.updater_law.specs.Covers.{set_at, Lines, IsCover, HasCover}
use Rattle.updater_law.specs.Covered.{IsCovered, IsTarget}
use Rattle.updater_law.specs.Facts.{TurnTerms, TurnFacts, IsListed}
use Rattle.updater_law.specs.TurnStages.{ReadyLine, TurnStage, Resting, Between, Sees, SeesKind, SeesNode, Lands, Changes, Stamps, Clears, Sweeps, Gone, HasStamp, IsUnworn, Frees, Counts}
use Rattle.updater_law.specs.TurnSteps.{AreSameBut, emptied, takes_lock, leaves_lock, passes, sees, sees_kind, sees_node, sees_anchor, walks, leaves_line, decides, changes, has_changed_merge, has_changed_split, stamps, empties, sweeps, passes_node, sees_gone, passes_stamp, sees_stamp, passes_worn, sees_unworn, unstamps, frees, starts_count, counts_free, counts}
use Rattle.updater_law.specs.Lawful.{IsAtHand, IsFit, IsDecided, SureTurn, IsDurableBut, IsNotFreed, IsStamped, IsReadyMerge, IsBeingFreed, TurnLawful}
use Rattle.updater_law.specs.Laws.{TurnKeeps}
use Rattle.updater_law.proofs.Columns.{here, other}
use Rattle.updater_law.proofs.Covers.{covered_layer, covered_empties, cover_apart, target_has}

-- whose a GONE node with no stamp is, once more: a ready line's, its holder's, or the turn's
owned_on : {Ready Next Held Mine Rest : Type 0} → Ready ⊎ (Held ⊎ Mine) → (Ready → Next) → (Mine → Next ⊎ (Held ⊎ Rest)) → Next ⊎ (Held ⊎ Rest)
owned_on (inl is) ready mine = inl (ready is)
owned_on (inr (inl held)) ready mine = inr (inl held)
owned_on (inr (inr is)) ready mine = mine is

module _ (c : TurnTerms) (f : TurnFacts) (s : TurnStage) (law : TurnLawful c f s) where
  -- with the same facts
  restage : (t : TurnStage) → IsDurableBut f.layer f.safe_layer t → SureTurn c f t → ((n : ℕ) → IsNotFreed t n) → ((j : ℕ) → IsStamped s j → IsStamped t j) → ((n : ℕ) → IsBeingFreed s n → IsBeingFreed t n) → TurnLawful c f t
  restage t durable sure free stamped freed = record {
    stamped_by = law.stamped_by;
    durable = durable;
    led = λ key node is. let led = law.led key node is in record { anchor = led.anchor; status = led.status; stamp = led.stamp; not_freed = free node };
    covered = law.covered;
    apart = law.apart;
    live = law.live;
    marked = law.marked;
    owned = λ n gone bare. elim (law.owned n gone bare) [ inl ready ↦ inl ready | inr (inl held) ↦ inr (inl held) | inr (inr mine) ↦ inr (inr (freed n mine)) ];
    ready = law.ready;
    merges = λ j ready kind. let is = law.merges j ready kind in record {
      gone = is.gone;
      anchor = is.anchor;
      stamp = elim is.stamp [ inl none ↦ inl none | inr mine ↦ inr (stamped j mine) ];
      alone = is.alone;
    };
    sure = sure;
  }

  live_bare : (n : ℕ) → IsListed f n → f.stamp n ≡ 0
  live_bare n listed = elim (cases_eq (f.stamp n) 0) [ inl none ↦ none | inr some_stamp ↦ absurd (let one : f.status n ≡ live_status = law.live n listed in let two : f.status n ≡ gone_status = (law.marked n some_stamp).0 in omega arith) ]

  -- the line at hand covers its anchor
  at_hand_covers : (e : ReadyLine) → IsAtHand f e → IsCover f.line f.safe_line e.anchor e.line
  at_hand_covers e is = let ready = law.ready e.line is.state in record {
    state = λ none. let two : 2 ≡ 0 = sym is.state ∙ none in omega (arith, two);
    anchor = is.anchor;
    safe_state = ready.safe_state;
    safe_anchor = ready.safe_anchor ∙ is.anchor;
  }

  merge_at_hand : (e : ReadyLine) → IsAtHand f e → e.kind ≡ merge_kind → IsReadyMerge f s e.line
  merge_at_hand e is kind = law.merges e.line is.state (is.kind ∙ kind)

  -- with the target's version loaded twice, what the list has at the anchor is known
  decided : (e : ReadyLine) (m : ℕ) → IsAtHand f e → IsTarget (IsListed f) f.anchor e.anchor m → f.held m ≡ false → m < c.nodes
      → IsDecided c f e (cond (f.anchor m == e.anchor) (Some m) None)
  decided e m is target free within = record {
    at_hand = is;
    stands = inl (target_has (IsListed f) f.anchor e.anchor m target);
    fits = λ n same. elim (f.anchor m == e.anchor) as (λ b. (f.anchor m == e.anchor) ≡ b → cond b (Some m) None ≡ Some n → IsFit c f e n) [
      | true ↦ λ yes_here got.
          let one : m ≡ n = (let p : Some m ≡ Some n = got in cc) in
          subst (λ k. IsFit c f e k) one (record {
            within = within;
            anchor = eqb-true _ _ yes_here;
            status = λ none. let live : f.status m ≡ live_status = law.live m target.here in omega arith;
            stamp = live_bare m target.here;
            other = λ kind same_node.
                let two : f.status (f.line.node e.line) ≡ gone_status = (merge_at_hand e is kind).gone in
                let live : f.status m ≡ live_status = law.live m target.here in
                let at_node : f.status m ≡ f.status (f.line.node e.line) = ap f.status (same_node ∙ sym is.node) in omega arith;
          })
      | false ↦ λ no_here got. absurd (let p : None ≡ Some n = got in cc)
    ] refl same;
    free = λ kind. elim (f.held e.node) as (λ b. f.held e.node ≡ b → b ≡ false) [
      | false ↦ λ h. refl
      | true ↦ λ h. absurd (
          let busy = (law.ready e.line is.state).busy (is.kind ∙ kind) (ap f.held is.node ∙ h) m (subst (λ k. IsTarget (IsListed f) f.anchor k m) (sym is.anchor) target) in
          let no_way : false ≡ true = sym free ∙ busy.0 in cc)
    ] refl;
  }

  -- a layer in which the anchor alone may lead elsewhere, to what was found
  module _ (e : ReadyLine) (found : Option ℕ) (layer : ℕ → Option ℕ) (is : IsDecided c f e found) (same : AreSameBut e.anchor layer f.layer) (here_or : (layer e.anchor ≡ f.layer e.anchor) ⊎ (layer e.anchor ≡ found)) where
    -- a key leads where it led, or it is the anchor and leads to what was found
    leads_where : (k node : ℕ) → layer k ≡ Some node → (f.layer k ≡ Some node) ⊎ ((k ≡ e.anchor) × (found ≡ Some node))
    leads_where k node leads = elim (cases_eq k e.anchor) [
      | inl at_key ↦ elim here_or [
        | inl stays ↦ inl (ap f.layer at_key ∙ sym stays ∙ ap layer (sym at_key) ∙ leads)
        | inr new ↦ inr (at_key, sym new ∙ ap layer (sym at_key) ∙ leads)
      ]
      | inr apart ↦ inl (sym (same k apart) ∙ leads)
    ]

    led_anchor : (k node : ℕ) → layer k ≡ Some node → (f.anchor node ≡ k) × (f.status node ≢ free_status) × (f.stamp node ≡ 0)
    led_anchor k node leads = elim (leads_where k node leads) [
      | inl was ↦ let led = law.led k node was in (led.anchor, led.status, led.stamp)
      | inr new ↦ let fit = is.fits node new.1 in (fit.anchor ∙ sym new.0, fit.status, fit.stamp)
    ]

    covered_still : IsCovered (IsListed f) f.anchor layer (HasCover f.line f.safe_line)
    covered_still = covered_layer (IsListed f) f.anchor f.layer layer (HasCover f.line f.safe_line) e.anchor (record { line = e.line; covers = at_hand_covers e is.at_hand }) same law.covered

decided_layer : (c : TurnTerms) (f : TurnFacts) (layer safe : ℕ → Option ℕ) (e : ReadyLine) (found : Option ℕ) → IsDecided c f e found → IsDecided c (record f { layer = layer; safe_layer = safe }) e found
decided_layer c f layer safe e found is = record {
  at_hand = record { state = is.at_hand.state; kind = is.at_hand.kind; node = is.at_hand.node; anchor = is.at_hand.anchor };
  stands = is.stands;
  fits = λ m same. let fit = is.fits m same in record { within = fit.within; anchor = fit.anchor; status = fit.status; stamp = fit.stamp; other = fit.other };
  free = is.free;
}

-- a step of the change
layer_keeps : (c : TurnTerms) (f : TurnFacts) (e : ReadyLine) (found : Option ℕ) (layer safe : ℕ → Option ℕ) (t : TurnStage) → TurnLawful c f (Changes e found) → AreSameBut e.anchor layer f.layer → (layer e.anchor ≡ f.layer e.anchor) ⊎ (layer e.anchor ≡ found)
    → IsDurableBut layer safe t → ((n : ℕ) → IsNotFreed t n) → SureTurn c (record f { layer = layer; safe_layer = safe }) t → TurnLawful c (record f { layer = layer; safe_layer = safe }) t
layer_keeps c f e found layer safe t law same here_or durable free sure = record {
  stamped_by = law.stamped_by;
  durable = durable;
  led = λ k node leads. let led = led_anchor c f (Changes e found) law e found layer law.sure same here_or k node leads in record { anchor = led.0; status = led.1; stamp = led.2; not_freed = free node };
  covered = covered_still c f (Changes e found) law e found layer law.sure same here_or;
  apart = law.apart;
  live = law.live;
  marked = law.marked;
  owned = λ n gone bare. owned_on (law.owned n gone bare) (λ ready. search ready) (λ mine. absurd mine);
  ready = λ j ready. assumption (law.ready j ready);
  merges = λ j ready kind. let m = law.merges j ready kind in record { gone = m.gone; anchor = m.anchor; stamp = elim m.stamp [ inl none ↦ inl none | inr mine ↦ absurd mine ]; alone = m.alone };
  sure = sure;
}

-- the stamp of a merged node
stamps_keep : (c : TurnTerms) (f : TurnFacts) (e : ReadyLine) → TurnLawful c f (Stamps e) → TurnLawful c (record f { stamp = set_at f.stamp e.node c.stamp }) (Clears e.line)
stamps_keep c f e law =
    let kind : e.kind ≡ merge_kind = law.sure.1 in
    let is = law.sure.0 in
    let merge = law.merges e.line is.at_hand.state (is.at_hand.kind ∙ kind) in
    let node_anchor : f.anchor e.node ≡ e.anchor = ap f.anchor (sym is.at_hand.node) ∙ merge.anchor ∙ is.at_hand.anchor in
    let bare : (m : ℕ) → m ≢ e.node → f.stamp m ≡ 0 → set_at f.stamp e.node c.stamp m ≡ 0 = λ m ne none. other f.stamp e.node m c.stamp ne ∙ none in
    record {
      stamped_by = law.stamped_by;
      durable = law.durable;
      led = λ k node leads.
          let led = law.led k node leads in
          let apart : node ≢ e.node = λ same.
          let at_key : k ≡ e.anchor = sym led.anchor ∙ ap f.anchor same ∙ node_anchor in
          let found_is : f.layer e.anchor ≡ Some node = ap f.layer (sym at_key) ∙ leads in
          (is.fits node found_is).other kind same in
          record { anchor = led.anchor; status = led.status; stamp = bare node apart led.stamp; not_freed = tt };
      covered = law.covered;
      apart = law.apart;
      live = law.live;
      marked = λ m some_stamp. elim (cases_eq m e.node) [
        | inl same ↦ (ap f.status (same ∙ sym is.at_hand.node) ∙ merge.gone, ap f.held same ∙ is.free kind)
        | inr ne ↦ law.marked m (λ none. some_stamp (other f.stamp e.node m c.stamp ne ∙ none))
      ];
      owned = λ n gone none.
          let apart : n ≢ e.node = λ same. law.stamped_by (sym (here f.stamp e.node n c.stamp same) ∙ none) in
          owned_on (law.owned n gone (sym (other f.stamp e.node n c.stamp apart) ∙ none)) (λ ready. search ready) (λ mine. absurd mine);
      ready = λ j ready. assumption (law.ready j ready);
      merges = λ j ready kind_j. let m = law.merges j ready kind_j in record {
        gone = m.gone;
        anchor = m.anchor;
        stamp = elim (cases_eq (f.line.node j) e.node) [
          | inl same ↦ inr (merge.alone j ready kind_j (same ∙ sym is.at_hand.node))
          | inr ne ↦ elim m.stamp [ inl none ↦ inl (bare (f.line.node j) ne none) | inr mine ↦ absurd mine ]
        ];
        alone = m.alone;
      };
      sure = record {
        entry = e;
        line = refl;
        decided = record {
          at_hand = record { state = is.at_hand.state; kind = is.at_hand.kind; node = is.at_hand.node; anchor = is.at_hand.anchor };
          stands = is.stands;
          fits = λ m same. let fit = is.fits m same in record { within = fit.within; anchor = fit.anchor; status = fit.status; stamp = bare m (fit.other kind) fit.stamp; other = fit.other };
          free = is.free;
        };
        stamped = λ _. here f.stamp e.node e.node c.stamp refl;
      };
    }

-- the line is emptied
empties_keep : (c : TurnTerms) (f : TurnFacts) (s : TurnStage) (e : ReadyLine) (found : Option ℕ) → TurnLawful c f s → IsDecided c f e found → f.layer e.anchor ≡ found → AreSame f.safe_layer f.layer
    → ((j : ℕ) → j ≢ e.line → IsStamped s j → ⊥) → ((n : ℕ) → IsBeingFreed s n → ⊥) → (e.kind ≡ merge_kind → f.stamp e.node ≢ 0)
    → TurnLawful c (record f { line = record (f.line) { state = set_at f.line.state e.line empty_state } }) (Between (suc e.line))
empties_keep c f s e found law is has durable not_stamped not_freed stamped =
    let key : ℕ = e.anchor in
    let line : Lines = record (f.line) { state = set_at f.line.state e.line empty_state } in
    let apart : (j : ℕ) → set_at f.line.state e.line empty_state j ≡ ready_state → j ≢ e.line = λ j ready same. let none : set_at f.line.state e.line empty_state j ≡ empty_state = here f.line.state e.line j empty_state same in omega arith in
    let was : (j : ℕ) → set_at f.line.state e.line empty_state j ≡ ready_state → f.line.state j ≡ ready_state = λ j ready. sym (other f.line.state e.line j empty_state (apart j ready)) ∙ ready in
    record {
      stamped_by = law.stamped_by;
      durable = durable;
      led = λ k node leads. let led = law.led k node leads in record { anchor = led.anchor; status = led.status; stamp = led.stamp; not_freed = tt };
      covered = covered_empties (IsListed f) f.anchor f.layer (HasCover f.line f.safe_line) (HasCover line f.safe_line) key found law.apart has
          (elim is.stands [
            | inl stands ↦ inl stands
            | inr over ↦ inr (record { line = over.line; covers = cover_apart f.line f.safe_line key over.line e.line empty_state over.apart over.covers })
          ])
          (λ k ne cover. record {
            line = cover.line;
            covers = cover_apart f.line f.safe_line k cover.line e.line empty_state (λ same. ne (sym cover.covers.anchor ∙ ap f.line.anchor same ∙ is.at_hand.anchor)) cover.covers;
          })
          law.covered;
      apart = law.apart;
      live = law.live;
      marked = law.marked;
      owned = λ n gone bare. elim (law.owned n gone bare) [
        | inl ready ↦ elim (cases_eq ready.line e.line) [
          | inl mine ↦ absurd (
              let kind : e.kind ≡ merge_kind = sym is.at_hand.kind ∙ ap f.line.kind (sym mine) ∙ ready.kind in
              let node : e.node ≡ n = sym is.at_hand.node ∙ ap f.line.node (sym mine) ∙ ready.node in
              stamped kind (ap f.stamp node ∙ bare))
          | inr ne ↦ inl (record { line = ready.line; state = other f.line.state e.line ready.line empty_state ne ∙ ready.state; kind = ready.kind; node = ready.node })
        ]
        | inr (inl held) ↦ inr (inl held)
        | inr (inr mine) ↦ absurd (not_freed n mine)
      ];
      ready = λ j ready. let r = law.ready j (was j ready) in record { safe_state = r.safe_state; safe_anchor = r.safe_anchor; busy = r.busy };
      merges = λ j ready kind. let m = law.merges j (was j ready) kind in record {
        gone = m.gone;
        anchor = m.anchor;
        stamp = elim m.stamp [ inl none ↦ inl none | inr mine ↦ absurd (not_stamped j (apart j ready) mine) ];
        alone = λ i ready_i kind_i same. m.alone i (was i ready_i) kind_i same;
      };
      sure = tt;
    }

-- the stamp is taken away
unstamps_keep : (c : TurnTerms) (f : TurnFacts) (n : ℕ) → TurnLawful c f (IsUnworn n) → TurnLawful c (record f { stamp = set_at f.stamp n 0 }) (Frees n)
unstamps_keep c f n law =
    let marked : f.stamp n ≢ 0 = law.sure.0.some_stamp in
    let bare : (m : ℕ) → f.stamp m ≡ 0 → set_at f.stamp n 0 m ≡ 0 = λ m none. elim (cases_eq m n) [ inl same ↦ here f.stamp n m 0 same | inr ne ↦ other f.stamp n m 0 ne ∙ none ] in
    record {
      stamped_by = law.stamped_by;
      durable = law.durable;
      led = λ k node leads. let led = law.led k node leads in
          record { anchor = led.anchor; status = led.status; stamp = bare node led.stamp; not_freed = λ same. marked (ap f.stamp (sym same) ∙ led.stamp) };
      covered = law.covered;
      apart = law.apart;
      live = law.live;
      marked = λ m some_stamp.
          let ne : m ≢ n = λ same. some_stamp (here f.stamp n m 0 same) in
          law.marked m (λ none. some_stamp (other f.stamp n m 0 ne ∙ none));
      owned = λ m gone none. elim (cases_eq m n) [
        | inl same ↦ inr (inr same)
        | inr ne ↦ owned_on (law.owned m gone (sym (other f.stamp n m 0 ne) ∙ none)) (λ ready. search ready) (λ mine. absurd mine)
      ];
      ready = λ j ready. assumption (law.ready j ready);
      merges = λ j ready kind. let m = law.merges j ready kind in record {
        gone = m.gone;
        anchor = m.anchor;
        stamp = elim m.stamp [ inl none ↦ inl (bare (f.line.node j) none) | inr mine ↦ absurd mine ];
        alone = m.alone;
      };
      sure = record {
        gone = law.sure.0.gone;
        bare = here f.stamp n n 0 refl;
        free = (law.marked n marked).1;
        unworn = law.sure.1;
        alone = λ j ready kind same. elim (law.merges j ready kind).stamp [ inl none ↦ marked (ap f.stamp (sym same) ∙ none) | inr mine ↦ absurd mine ];
      };
    }

-- and the node is free
frees_keep : (c : TurnTerms) (f : TurnFacts) (n : ℕ) → TurnLawful c f (Frees n) → TurnLawful c (record f { status = set_at f.status n free_status }) (Sweeps (suc n))
frees_keep c f n law =
    let is = law.sure in
    record {
      stamped_by = law.stamped_by;
      durable = law.durable;
      led = λ k node leads. let led = law.led k node leads in
          record { anchor = led.anchor; status = λ none. led.status (sym (other f.status n node free_status led.not_freed) ∙ none); stamp = led.stamp; not_freed = tt };
      covered = law.covered;
      apart = law.apart;
      live = λ m listed.
          let live : f.status m ≡ live_status = law.live m listed in
          let ne : m ≢ n = λ same. let two : f.status m ≡ gone_status = ap f.status same ∙ is.gone in omega arith in
          other f.status n m free_status ne ∙ live;
      marked = λ m some_stamp.
          let old = law.marked m some_stamp in
          (other f.status n m free_status (λ same. some_stamp (ap f.stamp same ∙ is.bare)) ∙ old.0, old.1);
      owned = λ m gone none.
          let ne : m ≢ n = λ same. let zero_status : set_at f.status n free_status m ≡ free_status = here f.status n m free_status same in omega arith in
          owned_on (law.owned m (sym (other f.status n m free_status ne) ∙ gone) none) (λ ready. search ready) (λ mine. absurd (ne mine));
      ready = λ j ready. assumption (law.ready j ready);
      merges = λ j ready kind. let m = law.merges j ready kind in record {
        gone = other f.status n (f.line.node j) free_status (is.alone j ready kind) ∙ m.gone;
        anchor = m.anchor;
        stamp = elim m.stamp [ inl none ↦ inl none | inr mine ↦ absurd mine ];
        alone = m.alone;
      };
      sure = tt;
    }

pub turn_keeps : TurnKeeps
turn_keeps c f f' s t law takes_lock = restage c f Resting law (Between 0) law.durable tt (λ n. tt) (λ j mine. mine) (λ n mine. mine)
turn_keeps c f f' s t law (passes j other_state) = restage c f (Between j) law (Between (suc j)) law.durable tt (λ n. tt) (λ j mine. mine) (λ n mine. mine)
turn_keeps c f f' s t law (sees j ready) = restage c f (Between j) law (Sees j) law.durable ready (λ n. tt) (λ j mine. mine) (λ n mine. mine)
turn_keeps c f f' s t law (sees_kind j) = restage c f (Sees j) law (SeesKind j (f.line.kind j)) law.durable (law.sure, refl) (λ n. tt) (λ j mine. mine) (λ n mine. mine)
turn_keeps c f f' s t law (sees_node j kind) = restage c f (SeesKind j kind) law (SeesNode j kind (f.line.node j)) law.durable (law.sure.0, law.sure.1, refl) (λ n. tt) (λ j mine. mine) (λ n mine. mine)
turn_keeps c f f' s t law (sees_anchor j kind node) =
    restage c f (SeesNode j kind node) law (Lands (record { line = j; kind = kind; node = node; anchor = f.line.anchor j })) law.durable
    (record { state = law.sure.0; kind = law.sure.1; node = law.sure.2; anchor = refl }) (λ n. tt) (λ j mine. mine) (λ n mine. mine)
turn_keeps c f f' s t law walks = law
turn_keeps c f f' s t law (leaves_line e) = restage c f (Lands e) law (Between (suc e.line)) law.durable tt (λ n. tt) (λ j mine. mine) (λ n mine. mine)
turn_keeps c f f' s t law (decides e m target free within) =
    restage c f (Lands e) law (Changes e (cond (f.anchor m == e.anchor) (Some m) None)) (λ k ne. law.durable k)
    (decided c f (Lands e) law e m law.sure target free within) (λ n. tt) (λ j mine. mine) (λ n mine. mine)
turn_keeps c f f' s t law (changes e found layer safe same here_or durable) =
    layer_keeps c f e found layer safe (Changes e found) law same here_or durable (λ n. tt) (decided_layer c f layer safe e found law.sure)
turn_keeps c f f' s t law (has_changed_merge e found layer safe same here_is durable kind) =
    layer_keeps c f e found layer safe (Stamps e) law same (inr here_is) durable (λ n. tt)
    (subst (λ k. IsDecided c (record f { layer = layer; safe_layer = safe }) e k) (sym here_is) (decided_layer c f layer safe e found law.sure), kind)
turn_keeps c f f' s t law (has_changed_split e found layer safe same here_is durable kind) =
    layer_keeps c f e found layer safe (Clears e.line) law same (inr here_is) durable (λ n. tt) (record {
      entry = e;
      line = refl;
      decided = subst (λ k. IsDecided c (record f { layer = layer; safe_layer = safe }) e k) (sym here_is) (decided_layer c f layer safe e found law.sure);
      stamped = λ merge. absurd (kind merge);
    })
turn_keeps c f f' s t law (stamps e) = stamps_keep c f e law
turn_keeps c f f' s t law (empties j) =
    let e : ReadyLine = law.sure.entry in
    subst (λ k. TurnLawful c (emptied f k) (Between (suc k))) law.sure.line
    (empties_keep c f (Clears j) e (f.layer e.anchor) law law.sure.decided refl law.durable (λ i ne mine. ne (mine ∙ sym law.sure.line)) (λ n mine. mine)
    (λ merge none. law.stamped_by (sym (law.sure.stamped merge) ∙ none)))
turn_keeps c f f' s t law (sweeps j done) = restage c f (Between j) law (Sweeps 0) law.durable tt (λ n. tt) (λ j mine. mine) (λ n mine. mine)
turn_keeps c f f' s t law (passes_node n other_status) = restage c f (Sweeps n) law (Sweeps (suc n)) law.durable tt (λ n. tt) (λ j mine. mine) (λ n mine. mine)
turn_keeps c f f' s t law (sees_gone n gone) = restage c f (Sweeps n) law (Gone n) law.durable gone (λ n. tt) (λ j mine. mine) (λ n mine. mine)
turn_keeps c f f' s t law (passes_stamp n why) = restage c f (Gone n) law (Sweeps (suc n)) law.durable tt (λ n. tt) (λ j mine. mine) (λ n mine. mine)
turn_keeps c f f' s t law (sees_stamp n some_stamp at_most) =
    restage c f (Gone n) law (HasStamp n) law.durable (record { gone = law.sure; some_stamp = some_stamp; release = at_most }) (λ n. tt) (λ j mine. mine) (λ n mine. mine)
turn_keeps c f f' s t law (passes_worn n worn) = restage c f (HasStamp n) law (Sweeps (suc n)) law.durable tt (λ n. tt) (λ j mine. mine) (λ n mine. mine)
turn_keeps c f f' s t law (sees_unworn n unworn) = restage c f (HasStamp n) law (IsUnworn n) law.durable (law.sure, unworn) (λ n. tt) (λ j mine. mine) (λ n mine. mine)
turn_keeps c f f' s t law (unstamps n) = unstamps_keep c f n law
turn_keeps c f f' s t law (frees n) = frees_keep c f n law
turn_keeps c f f' s t law (starts_count n done) = restage c f (Sweeps n) law (Counts 0 true) law.durable (λ all m lt. absurd (omega arith)) (λ n. tt) (λ j mine. mine) (λ n mine. mine)
turn_keeps c f f' s t law (counts_free n none free) = restage c f (Counts n none) law (Counts (suc n) false) law.durable (λ all m lt. absurd (let no_way : false ≡ true = all in cc)) (λ n. tt) (λ j mine. mine) (λ n mine. mine)
turn_keeps c f f' s t law (counts n none taken) = restage c f (Counts n none) law (Counts (suc n) none) law.durable
    (λ all m lt. elim (cases_eq m n) [ inl same ↦ subst (λ k. f.status k ≢ free_status) (sym same) taken | inr ne ↦ law.sure all m (omega (arith, ne)) ]) (λ n. tt) (λ j mine. mine) (λ n mine. mine)
turn_keeps c f f' s t law (leaves_lock n none done) = restage c f (Counts n none) law Resting law.durable tt (λ n. tt) (λ j mine. mine) (λ n mine. mine)
