-- What the turn relies on stays while others step.
use Rattle.std.proofs.Common.{◌≡◌, ◌≢◌, ℕ, ◌≤◌, ◌⊎◌, true, false, Option, inl, inr, sym, subst, ap, ◌∙◌, arith}
use Rattle.pm_words.specs.Codes.{free_status, gone_status, merge_kind, open_state, ready_state}
use Rattle.updater_law.specs.Covers.{IsCover}
use Rattle.updater_law.specs.Covered.{ListHas}
use Rattle.updater_law.specs.Facts.{TurnTerms, TurnFacts, IsListed}
use Rattle.updater_law.specs.TurnStages.{ReadyLine, TurnStage, Resting, Between, Sees, SeesKind, SeesNode, Lands, Changes, Stamps, Clears, Sweeps, Gone, HasStamp, IsUnworn, Frees, Counts}
use Rattle.updater_law.specs.Lawful.{IsAtHand, IsDecided, IsFreeing, IsReleased, SureTurn, IsLed}

-- of the lines
pub record KeptLines (f f' : TurnFacts) : Type 0 where
  pub state : (j : ℕ) → f.line.state j ≡ ready_state → f'.line.state j ≡ ready_state
  pub kind : (j : ℕ) → f.line.state j ≡ ready_state → f'.line.kind j ≡ f.line.kind j
  pub node : (j : ℕ) → f.line.state j ≡ ready_state → f'.line.node j ≡ f.line.node j
  pub anchor : (j : ℕ) → f.line.state j ≡ ready_state → f'.line.anchor j ≡ f.line.anchor j
  pub covers : (key line : ℕ) → IsCover f.line f.safe_line key line → IsCover f'.line f'.safe_line key line
  -- a line that is ready now was so, or its node is held if it is of a merge
  pub readies : (j : ℕ) → f'.line.state j ≡ ready_state → f'.line.kind j ≡ merge_kind → (f.line.state j ≡ ready_state) ⊎ (f.held (f'.line.node j) ≡ true)

-- of the nodes
pub record KeptNodes (f f' : TurnFacts) : Type 0 where
  pub status : (n : ℕ) → f.status n ≢ free_status → f'.status n ≢ free_status
  pub gone : (n : ℕ) → f.status n ≡ gone_status → f'.status n ≡ gone_status
  pub stamp : (n : ℕ) → f'.stamp n ≡ f.stamp n
  pub worn : (n : ℕ) → f.held n ≡ false → f'.worn n ≡ f.worn n
  pub anchor : (n : ℕ) → f.status n ≢ free_status → f'.anchor n ≡ f.anchor n
  pub free : (n : ℕ) → f.status n ≡ gone_status → f.held n ≡ false → f'.held n ≡ false

-- what the list has at a key stays so, or a line that is open covers the key
pub record Overtakes (f : TurnFacts) (key : ℕ) : Type 0 where
  pub line : ℕ
  pub state : f.line.state line ≡ open_state
  pub covers : IsCover f.line f.safe_line key line

abbrev pub KeptList : TurnFacts → TurnFacts → Type 0
KeptList f f' = (key : ℕ) (found : Option ℕ) → ListHas (IsListed f) f.anchor key found → ListHas (IsListed f') f'.anchor key found ⊎ Overtakes f key

pub record Kept (f f' : TurnFacts) : Type 0 where
  pub lines : KeptLines f f'
  pub nodes : KeptNodes f f'
  pub list : KeptList f f'
  pub layer : f'.layer ≡ f.layer

module _ (c : TurnTerms) (f f' : TurnFacts) (kept : Kept f f') where
  at_hand_kept : (e : ReadyLine) → IsAtHand f e → IsAtHand f' e
  at_hand_kept e is = record {
    state = kept.lines.state e.line is.state;
    kind = kept.lines.kind e.line is.state ∙ is.kind;
    node = kept.lines.node e.line is.state ∙ is.node;
    anchor = kept.lines.anchor e.line is.state ∙ is.anchor;
  }

  decided_kept : (e : ReadyLine) (found : Option ℕ) → (e.kind ≡ merge_kind → f.status e.node ≡ gone_status) → IsDecided c f e found → IsDecided c f' e found
  decided_kept e found gone is = record {
    at_hand = at_hand_kept e is.at_hand;
    stands = elim is.stands [
      | inl has ↦ elim (kept.list e.anchor found has) [
        | inl still ↦ inl still
        | inr over ↦ inr (record {
          line = over.line;
          apart = λ same. let ready : f.line.state over.line ≡ ready_state = ap f.line.state same ∙ is.at_hand.state in let is_open : f.line.state over.line ≡ open_state = over.state in omega arith;
          covers = kept.lines.covers e.anchor over.line over.covers;
        })
      ]
      | inr other ↦ inr (record { line = other.line; apart = other.apart; covers = kept.lines.covers e.anchor other.line other.covers })
    ];
    fits = λ m same. let fit = is.fits m same in record {
      within = fit.within;
      anchor = kept.nodes.anchor m fit.status ∙ fit.anchor;
      status = kept.nodes.status m fit.status;
      stamp = kept.nodes.stamp m ∙ fit.stamp;
      other = fit.other;
    };
    free = λ merge. kept.nodes.free e.node (gone merge) (is.free merge);
  }

  layer_kept : (key : ℕ) → f'.layer key ≡ f.layer key
  layer_kept key = ap (λ (layer : ℕ → Option ℕ). layer key) kept.layer

  freeing_kept : (n : ℕ) → IsFreeing f n → IsFreeing f' n
  freeing_kept n is = record {
    gone = kept.nodes.gone n is.gone;
    bare = kept.nodes.stamp n ∙ is.bare;
    free = kept.nodes.free n is.gone is.free;
    unworn = kept.nodes.worn n is.free ∙ is.unworn;
    alone = λ j state kind same. elim (kept.lines.readies j state kind) [
      | inl was ↦ is.alone j was (sym (kept.lines.kind j was) ∙ kind) (sym (kept.lines.node j was) ∙ same)
      | inr held ↦ let no_way : false ≡ true = sym is.free ∙ ap f.held (sym same) ∙ held in cc
    ];
  }

  released_kept : (n : ℕ) → IsReleased c f n → IsReleased c f' n
  released_kept n is = record {
    gone = kept.nodes.gone n is.gone;
    some_stamp = λ none. is.some_stamp (sym (kept.nodes.stamp n) ∙ none);
    release = subst (λ s. s ≤ c.release) (sym (kept.nodes.stamp n)) is.release;
  }

  decided_still : (e : ReadyLine) → (e.kind ≡ merge_kind → f.status e.node ≡ gone_status) → IsDecided c f e (f.layer e.anchor) → IsDecided c f' e (f'.layer e.anchor)
  decided_still e gone is = subst (λ found. IsDecided c f' e found) (sym (layer_kept e.anchor)) (decided_kept e (f.layer e.anchor) gone is)

  -- the merged node of the line at hand is gone, and nobody holds a node with a stamp
  pub sure_kept : (s : TurnStage) → ((e : ReadyLine) → IsAtHand f e → e.kind ≡ merge_kind → f.status e.node ≡ gone_status) → ((n : ℕ) → f.stamp n ≢ 0 → f.held n ≡ false) → SureTurn c f s → SureTurn c f' s
  sure_kept Resting merged free sure = tt
  sure_kept (Between j) merged free sure = tt
  sure_kept (Sees j) merged free sure = kept.lines.state j sure
  sure_kept (SeesKind j kind) merged free sure = (kept.lines.state j sure.0, kept.lines.kind j sure.0 ∙ sure.1)
  sure_kept (SeesNode j kind node) merged free sure = (kept.lines.state j sure.0, kept.lines.kind j sure.0 ∙ sure.1, kept.lines.node j sure.0 ∙ sure.2)
  sure_kept (Lands e) merged free sure = at_hand_kept e sure
  sure_kept (Changes e found) merged free sure = decided_kept e found (merged e sure.at_hand) sure
  sure_kept (Stamps e) merged free sure = (decided_still e (merged e sure.0.at_hand) sure.0, sure.1)
  sure_kept (Clears j) merged free sure = record {
    entry = sure.entry;
    line = sure.line;
    decided = decided_still sure.entry (merged sure.entry sure.decided.at_hand) sure.decided;
    stamped = λ kind. kept.nodes.stamp sure.entry.node ∙ sure.stamped kind;
  }
  sure_kept (Sweeps n) merged free sure = tt
  sure_kept (Gone n) merged free sure = kept.nodes.gone n sure
  sure_kept (HasStamp n) merged free sure = released_kept n sure
  sure_kept (IsUnworn n) merged free sure = (released_kept n sure.0, kept.nodes.worn n (free n sure.0.some_stamp) ∙ sure.1)
  sure_kept (Frees n) merged free sure = freeing_kept n sure
  sure_kept (Counts n none) merged free sure = λ all m lt. kept.nodes.status m (sure all m lt)

  pub led_kept : (s : TurnStage) (key node : ℕ) → IsLed f s key node → IsLed f' s key node
  led_kept s key node is = record {
    anchor = kept.nodes.anchor node is.status ∙ is.anchor;
    status = kept.nodes.status node is.status;
    stamp = kept.nodes.stamp node ∙ is.stamp;
    not_freed = is.not_freed;
  }
