-- A step of another party keeps the law.
use Rattle.std.proofs.Common.{◌≡◌, ◌≢◌, ℕ, ◌≤◌, ◌⊎◌, Bool, true, false, Some, None, inl, inr, refl, sym, subst, ap, ◌∙◌, arith}
use Rattle.std.proofs.lemmas.Bool.{cases_eq, cases_lt}
use Rattle.pm_words.specs.Codes.{gone_status, live_status, merge_kind, open_state, ready_state, empty_state}
use Rattle.updater_law.specs.Covers.{set_at, Lines, IsCover, HasCover}
use Rattle.updater_law.specs.Covered.{IsCovered, ListHas, AreApart, IsTarget}
use Rattle.updater_law.specs.Facts.{TurnTerms, TurnFacts, IsListed, HasReadyMerge}
use Rattle.updater_law.specs.TurnStages.{ReadyLine, TurnStage}
use Rattle.updater_law.specs.OtherSteps.{OtherStep, notes_kind, notes_node, notes_anchor, opens, readies, drains_lines, locks, claims, unlocks, anchors, lights, links, unlinks, goes}
use Rattle.updater_law.specs.Lawful.{IsBeingFreed, IsAtHand, IsDurableBut, IsReady, IsReadyMerge, TurnLawful}
use Rattle.updater_law.specs.Laws.{OtherKeeps, OthersFreeNone}
use Rattle.updater_law.proofs.Columns.{here, other}
use Rattle.updater_law.proofs.Covers.{covered_more, covered_links, covered_unlinks, covered_anchors, cover_evicts, cover_noted, cover_stays}
use Rattle.updater_law.proofs.Kept.{KeptLines, KeptNodes, KeptList, Kept, sure_kept, led_kept}

same_lines : (f f' : TurnFacts) → f'.line ≡ f.line → f'.safe_line ≡ f.safe_line → KeptLines f f'
same_lines f f' e e' = record {
  state = λ j is. ap (λ (l : Lines). l.state j) e ∙ is;
  kind = λ j is. ap (λ (l : Lines). l.kind j) e;
  node = λ j is. ap (λ (l : Lines). l.node j) e;
  anchor = λ j is. ap (λ (l : Lines). l.anchor j) e;
  covers = λ key line cover. subst (λ (l : Lines). IsCover l f'.safe_line key line) (sym e) (subst (λ (l : Lines). IsCover f.line l key line) (sym e') cover);
  readies = λ j is kind. inl (sym (ap (λ (l : Lines). l.state j) e) ∙ is);
}

same_nodes : (f f' : TurnFacts) → f'.status ≡ f.status → f'.stamp ≡ f.stamp → f'.worn ≡ f.worn → f'.anchor ≡ f.anchor → f'.held ≡ f.held → KeptNodes f f'
same_nodes f f' status stamp worn anchor held = record {
  status = λ n is none. is (sym (ap (λ (g : ℕ → ℕ). g n) status) ∙ none);
  gone = λ n is. ap (λ (g : ℕ → ℕ). g n) status ∙ is;
  stamp = λ n. ap (λ (g : ℕ → ℕ). g n) stamp;
  worn = λ n free. ap (λ (g : ℕ → Bool). g n) worn;
  anchor = λ n is. ap (λ (g : ℕ → ℕ). g n) anchor;
  free = λ n gone is. ap (λ (g : ℕ → Bool). g n) held ∙ is;
}

same_list : (f f' : TurnFacts) → f'.listed ≡ f.listed → f'.anchor ≡ f.anchor → KeptList f f'
same_list f f' listed anchor key found has =
    inl (subst (λ (g : ℕ → Bool). ListHas (λ n. g n ≡ true) f'.anchor key found) (sym listed) (subst (λ (a : ℕ → ℕ). ListHas (IsListed f) a key found) (sym anchor) has))

not_two : (f : TurnFacts) (j i x : ℕ) → f.line.state j ≡ x → x ≢ 2 → f.line.state i ≡ ready_state → i ≢ j
not_two f j i x is ne ready same = ne (sym is ∙ ap f.line.state (sym same) ∙ ready)

-- a state that isn't ready or empty yet becomes open or ready
state_lines : (f : TurnFacts) (j x y : ℕ) → f.line.state j ≡ x → x ≢ ready_state → y ≢ empty_state → ((y ≡ ready_state) → f.line.kind j ≡ merge_kind → f.held (f.line.node j) ≡ true)
    → KeptLines f (record f { line = record (f.line) { state = set_at f.line.state j y } })
state_lines f j x y is ne some_state held = record {
  state = λ i ready. other f.line.state j i y (not_two f j i x is ne ready) ∙ ready;
  kind = λ i ready. refl;
  node = λ i ready. refl;
  anchor = λ i ready. refl;
  covers = λ key line cover. cover_stays f.line f.safe_line key line j y some_state cover;
  readies = λ i ready kind. elim (cases_eq i j) [
    | inl e ↦ inr (subst (λ k. f.line.kind k ≡ merge_kind → f.held (f.line.node k) ≡ true) (sym e) (held (sym (here f.line.state j i y e) ∙ ready)) kind)
    | inr apart ↦ inl (sym (other f.line.state j i y apart) ∙ ready)
  ];
}

was_listed : (f : TurnFacts) (n m : ℕ) → set_at f.listed n true m ≡ true → (f.listed m ≡ true) ⊎ (m ≡ n)
was_listed f n m is = elim (cases_eq m n) [ inl e ↦ inr e | inr ne ↦ inl (sym (other f.listed n m true ne) ∙ is) ]

still_listed : (f : TurnFacts) (n m : ℕ) → f.listed m ≡ true → set_at f.listed n true m ≡ true
still_listed f n m is = elim (cases_eq m n) [ inl e ↦ here f.listed n m true e | inr ne ↦ other f.listed n m true ne ∙ is ]

not_removed : (f : TurnFacts) (n m : ℕ) → set_at f.listed n false m ≡ true → m ≢ n
not_removed f n m is e = let no_way : false ≡ true = sym (here f.listed n m false e) ∙ is in cc

left_listed : (f : TurnFacts) (n m : ℕ) → set_at f.listed n false m ≡ true → f.listed m ≡ true
left_listed f n m is = sym (other f.listed n m false (not_removed f n m is)) ∙ is

listed_left : (f : TurnFacts) (n m : ℕ) → f.listed m ≡ true → m ≢ n → set_at f.listed n false m ≡ true
listed_left f n m is ne = other f.listed n m false ne ∙ is

not_opened : (f : TurnFacts) (i j : ℕ) → set_at f.line.state i open_state j ≡ ready_state → j ≢ i
not_opened f i j ready e = let one : set_at f.line.state i open_state j ≡ open_state = here f.line.state i j open_state e in omega arith

module _ (c : TurnTerms) (f : TurnFacts) (s : TurnStage) (law : TurnLawful c f s) where
  -- a node of this status isn't listed
  unlisted : (n x : ℕ) → f.status n ≡ x → x ≢ 1 → (m : ℕ) → IsListed f m → m ≢ n
  unlisted n x is ne m listed e = ne (sym is ∙ ap f.status (sym e) ∙ law.live m listed)

  list_anchors : (n k : ℕ) → ((m : ℕ) → IsListed f m → m ≢ n) → KeptList f (record f { anchor = set_at f.anchor n k })
  list_anchors n k apart key None has = inl (λ m listed same. has m listed (sym (other f.anchor n m k (apart m listed)) ∙ same))
  list_anchors n k apart key (Some m) has = inl (has.0, other f.anchor n m k (apart m has.0) ∙ has.1)

  list_links : (n j : ℕ) → f.line.state j ≡ open_state → IsCover f.line f.safe_line (f.anchor n) j → KeptList f (record f { listed = set_at f.listed n true })
  list_links n j is_open cover key None has =
      elim (cases_eq (f.anchor n) key) [
        | inl same ↦ inr (record { line = j; state = is_open; covers = subst (λ k. IsCover f.line f.safe_line k j) same cover })
        | inr ne ↦ inl (λ m listed same. elim (was_listed f n m listed) [ inl was ↦ has m was same | inr e ↦ ne (ap f.anchor (sym e) ∙ same) ])
      ]
  list_links n j is_open cover key (Some m) has = inl (still_listed f n m has.0, has.1)

  list_unlinks : (r j : ℕ) → f.line.state j ≡ open_state → IsCover f.line f.safe_line (f.anchor r) j → KeptList f (record f { listed = set_at f.listed r false })
  list_unlinks r j is_open cover key None has = inl (λ m listed same. has m (left_listed f r m listed) same)
  list_unlinks r j is_open cover key (Some m) has =
      elim (cases_eq m r) [
        | inl e ↦ inr (record { line = j; state = is_open; covers = subst (λ k. IsCover f.line f.safe_line k j) (ap f.anchor (sym e) ∙ has.1) cover })
        | inr ne ↦ inl (listed_left f r m has.0 ne, has.1)
      ]

  -- a lock of a node that isn't gone
  held_nodes : (n p : ℕ) → f.status n ≢ gone_status → KeptNodes f (record f { held = set_at f.held n true; holder = set_at f.holder n p })
  held_nodes n p ne = record {
    status = λ m is. is;
    gone = λ m is. is;
    stamp = λ m. refl;
    worn = λ m free. refl;
    anchor = λ m is. refl;
    free = λ m gone is. other f.held n m true (λ e. ne (ap f.status (sym e) ∙ gone)) ∙ is;
  }

  -- its end
  freed_nodes : (n : ℕ) (worn : Bool) → f.held n ≡ true → KeptNodes f (record f { held = set_at f.held n false; worn = set_at f.worn n worn })
  freed_nodes n worn held = record {
    status = λ m is. is;
    gone = λ m is. is;
    stamp = λ m. refl;
    worn = λ m free. other f.worn n m worn (λ e. let no_way : false ≡ true = sym free ∙ ap f.held e ∙ held in cc);
    anchor = λ m is. refl;
    free = λ m gone is. elim (cases_eq m n) [
      | inl e ↦ here f.held n m false e
      | inr apart ↦ other f.held n m false apart ∙ is
    ];
  }

  -- a status of a node that isn't gone
  status_nodes : (n x : ℕ) → x ≢ 0 → f.status n ≢ gone_status → KeptNodes f (record f { status = set_at f.status n x })
  status_nodes n x some_status ne = record {
    status = λ m is. elim (cases_eq m n) [
      | inl e ↦ λ none. some_status (sym (here f.status n m x e) ∙ none)
      | inr apart ↦ λ none. is (sym (other f.status n m x apart) ∙ none)
    ];
    gone = λ m is. other f.status n m x (λ e. ne (ap f.status (sym e) ∙ is)) ∙ is;
    stamp = λ m. refl;
    worn = λ m free. refl;
    anchor = λ m is. refl;
    free = λ m gone is. is;
  }

  -- a step on lines alone
  with_lines : (line safe : Lines) → KeptLines f (record f { line = line; safe_line = safe }) → Kept f (record f { line = line; safe_line = safe })
  with_lines line safe lines = record {
    lines = lines;
    nodes = same_nodes f (record f { line = line; safe_line = safe }) refl refl refl refl refl;
    list = same_list f (record f { line = line; safe_line = safe }) refl refl;
    layer = refl;
  }

  -- and one that leaves their states
  noted : (kind node anchor : ℕ → ℕ) (safe : Lines) → ((i : ℕ) → f.line.state i ≡ ready_state → kind i ≡ f.line.kind i) → ((i : ℕ) → f.line.state i ≡ ready_state → node i ≡ f.line.node i)
      → ((i : ℕ) → f.line.state i ≡ ready_state → anchor i ≡ f.line.anchor i)
      → ((key j : ℕ) → IsCover f.line f.safe_line key j → IsCover (record (f.line) { kind = kind; node = node; anchor = anchor }) safe key j)
      → Kept f (record f { line = record (f.line) { kind = kind; node = node; anchor = anchor }; safe_line = safe })
  noted kind node anchor safe same_kind same_node same_anchor covered = with_lines (record (f.line) { kind = kind; node = node; anchor = anchor }) safe (record {
    state = λ i ready. ready;
    kind = same_kind;
    node = same_node;
    anchor = same_anchor;
    covers = covered;
    readies = λ i ready kind. inl ready;
  })

  kept : {f' : TurnFacts} → OtherStep f f' → Kept f f'
  kept (notes_kind j x empty) = noted (set_at f.line.kind j x) f.line.node f.line.anchor f.safe_line
      (λ i ready. other f.line.kind j i x (not_two f j i empty_state empty (omega arith) ready)) (λ i ready. refl) (λ i ready. refl)
      (λ key line cover. record { state = cover.state; anchor = cover.anchor; safe_state = cover.safe_state; safe_anchor = cover.safe_anchor })
  kept (notes_node j x empty) = noted f.line.kind (set_at f.line.node j x) f.line.anchor f.safe_line
      (λ i ready. refl) (λ i ready. other f.line.node j i x (not_two f j i empty_state empty (omega arith) ready)) (λ i ready. refl)
      (λ key line cover. record { state = cover.state; anchor = cover.anchor; safe_state = cover.safe_state; safe_anchor = cover.safe_anchor })
  kept (notes_anchor j x empty) = noted f.line.kind f.line.node (set_at f.line.anchor j x) f.safe_line
      (λ i ready. refl) (λ i ready. refl) (λ i ready. other f.line.anchor j i x (not_two f j i empty_state empty (omega arith) ready))
      (λ key line cover. cover_noted f.line (set_at f.line.anchor j x) f.safe_line key line j empty (λ i ne. other f.line.anchor j i x ne) cover)
  kept (opens j empty) = with_lines (record (f.line) { state = set_at f.line.state j open_state }) f.safe_line
      (state_lines f j empty_state open_state empty (omega arith) (omega arith) (λ e. absurd (omega arith)))
  kept (readies j is_open safe_state safe_anchor ripe) = with_lines (record (f.line) { state = set_at f.line.state j ready_state }) f.safe_line
      (state_lines f j open_state ready_state is_open (omega arith) (omega arith) (λ e kind. (ripe kind).held))
  kept (drains_lines lines evicts) = noted f.line.kind f.line.node f.line.anchor lines
      (λ i ready. refl) (λ i ready. refl) (λ i ready. refl) (λ key line cover. cover_evicts f.line f.safe_line lines key line evicts cover)
  kept (locks p n listed live free) = let f' : TurnFacts = record f { held = set_at f.held n true; holder = set_at f.holder n p } in
      record { lines = same_lines f f' refl refl; nodes = held_nodes n p (λ e. omega arith); list = same_list f f' refl refl; layer = refl }
  kept (claims p n free unheld) = let f' : TurnFacts = record f { held = set_at f.held n true; holder = set_at f.holder n p } in
      record { lines = same_lines f f' refl refl; nodes = held_nodes n p (λ e. omega arith); list = same_list f f' refl refl; layer = refl }
  kept (unlocks p n worn held holds last owner) = let f' : TurnFacts = record f { held = set_at f.held n false; worn = set_at f.worn n worn } in
      record { lines = same_lines f f' refl refl; nodes = freed_nodes n worn held; list = same_list f f' refl refl; layer = refl }
  kept (anchors n k free held) = let f' : TurnFacts = record f { anchor = set_at f.anchor n k } in
      record {
        lines = same_lines f f' refl refl;
        nodes = record {
          status = λ m is. is;
          gone = λ m is. is;
          stamp = λ m. refl;
          worn = λ m free. refl;
          anchor = λ m is. other f.anchor n m k (λ e. is (ap f.status e ∙ free));
          free = λ m gone is. is;
        };
        list = list_anchors n k (unlisted n 0 free (omega arith));
        layer = refl;
      }
  kept (lights n free held) = let f' : TurnFacts = record f { status = set_at f.status n live_status } in
      record { lines = same_lines f f' refl refl; nodes = status_nodes n live_status (omega arith) (λ e. omega arith); list = same_list f f' refl refl; layer = refl }
  kept (links l n j new live held target same_holder is_open cover apart) = let f' : TurnFacts = record f { listed = set_at f.listed n true } in
      record { lines = same_lines f f' refl refl; nodes = same_nodes f f' refl refl refl refl refl; list = list_links n j is_open cover; layer = refl }
  kept (unlinks l r j here_l here_r apart held held_r same_holder below before is_open cover) = let f' : TurnFacts = record f { listed = set_at f.listed r false } in
      record { lines = same_lines f f' refl refl; nodes = same_nodes f f' refl refl refl refl refl; list = list_unlinks r j is_open cover; layer = refl }
  kept (goes n gone live held) = let f' : TurnFacts = record f { status = set_at f.status n gone_status } in
      record { lines = same_lines f f' refl refl; nodes = status_nodes n gone_status (omega arith) (λ e. omega arith); list = same_list f f' refl refl; layer = refl }

  -- the layer stays covered
  lines_covered : (line safe : Lines) → ((key j : ℕ) → IsCover f.line f.safe_line key j → IsCover line safe key j) → IsCovered (IsListed f) f.anchor f.layer (HasCover line safe)
  lines_covered line safe more = covered_more (IsListed f) f.anchor f.layer (HasCover f.line f.safe_line) (HasCover line safe) (λ key cover. record { line = cover.line; covers = more key cover.line cover.covers }) law.covered

  covered_after : {f' : TurnFacts} → OtherStep f f' → IsCovered (IsListed f') f'.anchor f'.layer (HasCover f'.line f'.safe_line)
  covered_after (notes_kind j x empty) = lines_covered (record (f.line) { kind = set_at f.line.kind j x }) f.safe_line (kept (notes_kind j x empty)).lines.covers
  covered_after (notes_node j x empty) = lines_covered (record (f.line) { node = set_at f.line.node j x }) f.safe_line (kept (notes_node j x empty)).lines.covers
  covered_after (notes_anchor j x empty) = lines_covered (record (f.line) { anchor = set_at f.line.anchor j x }) f.safe_line (kept (notes_anchor j x empty)).lines.covers
  covered_after (opens j empty) = lines_covered (record (f.line) { state = set_at f.line.state j open_state }) f.safe_line (kept (opens j empty)).lines.covers
  covered_after (readies j is_open safe_state safe_anchor ripe) = lines_covered (record (f.line) { state = set_at f.line.state j ready_state }) f.safe_line (kept (readies j is_open safe_state safe_anchor ripe)).lines.covers
  covered_after (drains_lines lines evicts) = lines_covered f.line lines (kept (drains_lines lines evicts)).lines.covers
  covered_after (locks p n listed live free) = law.covered
  covered_after (claims p n free unheld) = law.covered
  covered_after (unlocks p n worn held holds last owner) = law.covered
  covered_after (anchors n k free held) =
      covered_anchors (IsListed f) f.anchor (set_at f.anchor n k) f.layer (HasCover f.line f.safe_line) (λ m listed. other f.anchor n m k (unlisted n 0 free (omega arith) m listed)) law.covered
  covered_after (lights n free held) = law.covered
  covered_after (links l n j new live held target same_holder is_open cover apart) =
      covered_links (IsListed f) (λ m. set_at f.listed n true m ≡ true) f.anchor f.layer (HasCover f.line f.safe_line) n (record { line = j; covers = cover }) (still_listed f n) (was_listed f n) law.covered
  covered_after (unlinks l r j here_l here_r apart held held_r same_holder below before is_open cover) =
      covered_unlinks (IsListed f) (λ m. set_at f.listed r false m ≡ true) f.anchor f.layer (HasCover f.line f.safe_line) r (record { line = j; covers = cover }) (left_listed f r) (listed_left f r) law.covered
  covered_after (goes n gone live held) = law.covered

  apart_after : {f' : TurnFacts} → OtherStep f f' → AreApart (IsListed f') f'.anchor
  apart_after (notes_kind j x empty) = law.apart
  apart_after (notes_node j x empty) = law.apart
  apart_after (notes_anchor j x empty) = law.apart
  apart_after (opens j empty) = law.apart
  apart_after (readies j is_open safe_state safe_anchor ripe) = law.apart
  apart_after (drains_lines lines evicts) = law.apart
  apart_after (locks p n listed live free) = law.apart
  apart_after (claims p n free unheld) = law.apart
  apart_after (unlocks p n worn held holds last owner) = law.apart
  apart_after (anchors n k free held) = λ m o listed listed' same.
      law.apart m o listed listed' (sym (other f.anchor n m k (unlisted n 0 free (omega arith) m listed)) ∙ same ∙ other f.anchor n o k (unlisted n 0 free (omega arith) o listed'))
  apart_after (lights n free held) = law.apart
  apart_after (links l n j new live held target same_holder is_open cover apart) = λ m o listed listed' same.
      elim (was_listed f n m listed) [
        | inl was ↦ elim (was_listed f n o listed') [
          | inl was' ↦ law.apart m o was was' same
          | inr e ↦ absurd (apart m was (same ∙ ap f.anchor e))
        ]
        | inr e ↦ elim (was_listed f n o listed') [
          | inl was' ↦ absurd (apart o was' (sym same ∙ ap f.anchor e))
          | inr e' ↦ e ∙ sym e'
        ]
      ]
  apart_after (unlinks l r j here_l here_r apart held held_r same_holder below before is_open cover) = λ m o listed listed' same. law.apart m o (left_listed f r m listed) (left_listed f r o listed') same
  apart_after (goes n gone live held) = law.apart

  live_after : {f' : TurnFacts} → OtherStep f f' → (m : ℕ) → IsListed f' m → f'.status m ≡ live_status
  live_after (notes_kind j x empty) m listed = law.live m listed
  live_after (notes_node j x empty) m listed = law.live m listed
  live_after (notes_anchor j x empty) m listed = law.live m listed
  live_after (opens j empty) m listed = law.live m listed
  live_after (readies j is_open safe_state safe_anchor ripe) m listed = law.live m listed
  live_after (drains_lines lines evicts) m listed = law.live m listed
  live_after (locks p n is_listed live free) m listed = law.live m listed
  live_after (claims p n free unheld) m listed = law.live m listed
  live_after (unlocks p n worn held holds last owner) m listed = law.live m listed
  live_after (anchors n k free held) m listed = law.live m listed
  live_after (lights n free held) m listed = other f.status n m live_status (unlisted n 0 free (omega arith) m listed) ∙ law.live m listed
  live_after (links l n j new live held target same_holder is_open cover apart) m listed = elim (was_listed f n m listed) [ inl was ↦ law.live m was | inr e ↦ ap f.status e ∙ live ]
  live_after (unlinks l r j here_l here_r apart held held_r same_holder below before is_open cover) m listed = law.live m (left_listed f r m listed)
  live_after (goes n gone live held) m listed = other f.status n m gone_status (λ e. gone (subst (IsListed f) e listed)) ∙ law.live m listed

  -- a node with a stamp is gone and free: it has none of these statuses
  marked_not : (n m x : ℕ) → f.status n ≡ x → x ≢ 2 → f.stamp m ≢ 0 → m ≢ n
  marked_not n m x is ne stamp e = ne (sym is ∙ ap f.status (sym e) ∙ (law.marked m stamp).0)

  marked_after : {f' : TurnFacts} → OtherStep f f' → (m : ℕ) → f'.stamp m ≢ 0 → (f'.status m ≡ gone_status) × (f'.held m ≡ false)
  marked_after (notes_kind j x empty) m stamp = law.marked m stamp
  marked_after (notes_node j x empty) m stamp = law.marked m stamp
  marked_after (notes_anchor j x empty) m stamp = law.marked m stamp
  marked_after (opens j empty) m stamp = law.marked m stamp
  marked_after (readies j is_open safe_state safe_anchor ripe) m stamp = law.marked m stamp
  marked_after (drains_lines lines evicts) m stamp = law.marked m stamp
  marked_after (locks p n listed live free) m stamp = let is = law.marked m stamp in (is.0, other f.held n m true (marked_not n m 1 live (omega arith) stamp) ∙ is.1)
  marked_after (claims p n free unheld) m stamp = let is = law.marked m stamp in (is.0, other f.held n m true (marked_not n m 0 free (omega arith) stamp) ∙ is.1)
  marked_after (unlocks p n worn held holds last owner) m stamp = let is = law.marked m stamp in
      (is.0, elim (cases_eq m n) [ inl e ↦ here f.held n m false e | inr ne ↦ other f.held n m false ne ∙ is.1 ])
  marked_after (anchors n k free held) m stamp = law.marked m stamp
  marked_after (lights n free held) m stamp = let is = law.marked m stamp in (other f.status n m live_status (marked_not n m 0 free (omega arith) stamp) ∙ is.0, is.1)
  marked_after (links l n j new live held target same_holder is_open cover apart) m stamp = law.marked m stamp
  marked_after (unlinks l r j here_l here_r apart held held_r same_holder below before is_open cover) m stamp = law.marked m stamp
  marked_after (goes n gone live held) m stamp = let is = law.marked m stamp in (other f.status n m gone_status (marked_not n m 1 live (omega arith) stamp) ∙ is.0, is.1)

  -- the node of a ready line of a merge is none with one of these statuses
  merged_not : (j n x : ℕ) → f.line.state j ≡ ready_state → f.line.kind j ≡ merge_kind → f.status n ≡ x → x ≢ 2 → f.line.node j ≢ n
  merged_not j n x ready kind is ne e = ne (sym is ∙ ap f.status (sym e) ∙ (law.merges j ready kind).gone)

  -- the ready lines
  abbrev IsBusy : TurnFacts → ℕ → Type 0
  IsBusy f' j = f.line.kind j ≡ merge_kind → f'.held (f.line.node j) ≡ true → (m : ℕ) → IsTarget (IsListed f') f'.anchor (f.line.anchor j) m → (f'.held m ≡ true) × (f'.holder m ≡ f'.holder (f.line.node j))

  ready_line : (f' : TurnFacts) (j : ℕ) → IsReady f j → f'.line ≡ f.line → f'.safe_line ≡ f.safe_line → IsBusy f' j → IsReady f' j
  ready_line f' j is line safe busy = record {
    safe_state = λ none. is.safe_state (sym (ap (λ (l : Lines). l.state j) safe) ∙ none);
    safe_anchor = ap (λ (l : Lines). l.anchor j) safe ∙ is.safe_anchor ∙ sym (ap (λ (l : Lines). l.anchor j) line);
    busy = subst (λ (l : Lines). l.kind j ≡ merge_kind → f'.held (l.node j) ≡ true → (m : ℕ) → IsTarget (IsListed f') f'.anchor (l.anchor j) m → (f'.held m ≡ true) × (f'.holder m ≡ f'.holder (l.node j))) (sym line) busy;
  }

  -- another node gets a holder
  busy_locked : (p n j : ℕ) → f.line.state j ≡ ready_state → f.held n ≡ false → (f.line.kind j ≡ merge_kind → f.line.node j ≢ n) → IsBusy (record f { held = set_at f.held n true; holder = set_at f.holder n p }) j
  busy_locked p n j ready free apart kind is m target =
      let ne = apart kind in
      let was : f.held (f.line.node j) ≡ true = sym (other f.held n (f.line.node j) true ne) ∙ is in
      let old = (law.ready j ready).busy kind was m (record { here = target.here; low = target.low; greatest = target.greatest }) in
      let ne_m : m ≢ n = λ e. (let no_way : false ≡ true = sym free ∙ ap f.held (sym e) ∙ old.0 in cc) in
      (other f.held n m true ne_m ∙ old.0, other f.holder n m p ne_m ∙ old.1 ∙ sym (other f.holder n (f.line.node j) p ne))

  -- another state, or fields of a line that isn't ready
  ready_lines : (line : Lines) (j : ℕ) → IsReady f j → line.kind j ≡ f.line.kind j → line.node j ≡ f.line.node j → line.anchor j ≡ f.line.anchor j → IsReady (record f { line = line }) j
  ready_lines line j is kind node anchor = record {
    safe_state = is.safe_state;
    safe_anchor = is.safe_anchor ∙ sym anchor;
    busy = λ merge held m target.
        let old = is.busy (sym kind ∙ merge) (ap f.held (sym node) ∙ held) m (subst (λ k. IsTarget (IsListed f) f.anchor k m) anchor target) in
        (old.0, old.1 ∙ ap f.holder (sym node));
  }

  locked_still : (n : ℕ) (m : ℕ) → f.held m ≡ true → set_at f.held n true m ≡ true
  locked_still n m is = elim (cases_eq m n) [ inl e ↦ here f.held n m true e | inr ne ↦ other f.held n m true ne ∙ is ]

  ready_after : {f' : TurnFacts} → OtherStep f f' → (j : ℕ) → f'.line.state j ≡ ready_state → IsReady f' j
  ready_after (notes_kind i x empty) j ready = let ne = not_two f i j empty_state empty (omega arith) ready in
      ready_lines (record (f.line) { kind = set_at f.line.kind i x }) j (law.ready j ready) (other f.line.kind i j x ne) refl refl
  ready_after (notes_node i x empty) j ready = let ne = not_two f i j empty_state empty (omega arith) ready in
      ready_lines (record (f.line) { node = set_at f.line.node i x }) j (law.ready j ready) refl (other f.line.node i j x ne) refl
  ready_after (notes_anchor i x empty) j ready = let ne = not_two f i j empty_state empty (omega arith) ready in
      ready_lines (record (f.line) { anchor = set_at f.line.anchor i x }) j (law.ready j ready) refl refl (other f.line.anchor i j x ne)
  ready_after (opens i empty) j ready =
      let ne : j ≢ i = not_opened f i j ready in
      ready_lines (record (f.line) { state = set_at f.line.state i open_state }) j (law.ready j (sym (other f.line.state i j open_state ne) ∙ ready)) refl refl refl
  ready_after (readies i is_open safe_state safe_anchor ripe) j ready =
      elim (cases_eq j i) [
        | inl e ↦ subst (λ k. IsReady (record f { line = record (f.line) { state = set_at f.line.state i ready_state } }) k) (sym e)
            (record { safe_state = safe_state; safe_anchor = safe_anchor; busy = λ kind held. (ripe kind).left })
        | inr ne ↦ ready_lines (record (f.line) { state = set_at f.line.state i ready_state }) j (law.ready j (sym (other f.line.state i j ready_state ne) ∙ ready)) refl refl refl
      ]
  ready_after (drains_lines lines evicts) j ready = let is = law.ready j ready in record {
    safe_state = evicts.state j (λ none. let two : 2 ≡ 0 = sym ready ∙ none in omega arith) is.safe_state;
    safe_anchor = evicts.anchor j is.safe_anchor;
    busy = is.busy;
  }
  ready_after (locks p n listed live free) j ready =
      ready_line (record f { held = set_at f.held n true; holder = set_at f.holder n p }) j (law.ready j ready) refl refl (busy_locked p n j ready free (λ kind. merged_not j n 1 ready kind live (omega arith)))
  ready_after (claims p n free unheld) j ready =
      ready_line (record f { held = set_at f.held n true; holder = set_at f.holder n p }) j (law.ready j ready) refl refl (busy_locked p n j ready unheld (λ kind. merged_not j n 0 ready kind free (omega arith)))
  ready_after (unlocks p n worn held holds last owner) j ready = ready_line (record f { held = set_at f.held n false; worn = set_at f.worn n worn }) j (law.ready j ready) refl refl (λ kind is m target.
      let apart : f.line.node j ≢ n = λ e. (let no_way : false ≡ true = sym (here f.held n (f.line.node j) false e) ∙ is in cc) in
      let was : f.held (f.line.node j) ≡ true = sym (other f.held n (f.line.node j) false apart) ∙ is in
      let old = (law.ready j ready).busy kind was m (record { here = target.here; low = target.low; greatest = target.greatest }) in (
        elim (cases_eq m n) [
          | inl e ↦ absurd (apart (last j ready kind was (sym old.1 ∙ ap f.holder e ∙ holds)))
          | inr ne ↦ other f.held n m false ne ∙ old.0
        ],
        old.1,
      ))
  ready_after (anchors n k free held) j ready = ready_line (record f { anchor = set_at f.anchor n k }) j (law.ready j ready) refl refl (λ kind is m target.
      let same : (i : ℕ) → IsListed f i → set_at f.anchor n k i ≡ f.anchor i = λ i listed. other f.anchor n i k (unlisted n 0 free (omega arith) i listed) in
      let at_m = same m target.here in
      (law.ready j ready).busy kind is m (record {
        here = target.here;
        low = subst (λ a. a ≤ f.line.anchor j) at_m target.low;
        greatest = λ i listed low. subst (λ a. a ≤ f.anchor m) (same i listed) (subst (λ a. set_at f.anchor n k i ≤ a) at_m (target.greatest i listed (subst (λ a. a ≤ f.line.anchor j) (sym (same i listed)) low)));
      }))
  ready_after (lights n free held) j ready = ready_line (record f { status = set_at f.status n live_status }) j (law.ready j ready) refl refl (law.ready j ready).busy
  ready_after (links l n i new live held left same_holder is_open cover apart) j ready = ready_line (record f { listed = set_at f.listed n true }) j (law.ready j ready) refl refl (λ kind is m target.
      elim (was_listed f n m target.here) [
        | inl was ↦ (law.ready j ready).busy kind is m (record { here = was; low = target.low; greatest = λ o listed low. target.greatest o (still_listed f n o listed) low })
        | inr e ↦
            let n_low : f.anchor n ≤ f.line.anchor j = subst (λ k. f.anchor k ≤ f.line.anchor j) e target.low in
            let l_low : f.anchor l ≤ f.anchor n = left.low in
            let old = (law.ready j ready).busy kind is l (record {
              here = left.here;
              low = omega arith;
              greatest = λ o listed low. left.greatest o listed (subst (λ k. f.anchor o ≤ f.anchor k) e (target.greatest o (still_listed f n o listed) low));
            }) in
            (ap f.held e ∙ held, ap f.holder e ∙ sym same_holder ∙ old.1)
      ])
  ready_after (unlinks l r i here_l here_r apart held held_r same_holder below before is_open cover) j ready = ready_line (record f { listed = set_at f.listed r false }) j (law.ready j ready) refl refl (λ kind is m target.
      let key : ℕ = f.line.anchor j in
      let low : f.anchor m ≤ key = target.low in
      let listed_m = left_listed f r m target.here in
      let with_r : (f.anchor r ≤ key → f.anchor r ≤ f.anchor m) → IsTarget (IsListed f) f.anchor key m = λ at_r.
      record {
        here = listed_m;
        low = target.low;
        greatest = λ o listed at_most. elim (cases_eq o r) [
          | inl e ↦ subst (λ k. f.anchor k ≤ f.anchor m) (sym e) (at_r (subst (λ k. f.anchor k ≤ key) e at_most))
          | inr ne ↦ target.greatest o (listed_left f r o listed ne) at_most
        ];
      } in
      elim (cases_lt (f.anchor m) (f.anchor r)) [
        | inl lower ↦ elim (cases_lt key (f.anchor r)) [
          | inl beyond ↦ (law.ready j ready).busy kind is m (with_r (λ at_most. absurd (omega arith)))
          | inr within ↦
              let up : f.anchor m ≤ f.anchor l = before m listed_m lower in
              let down : f.anchor l ≤ f.anchor m = target.greatest l (listed_left f r l here_l apart) (omega arith) in
              let one : m ≡ l = law.apart m l listed_m here_l (omega arith) in
              let old = (law.ready j ready).busy kind is r (record {
                here = here_r;
                low = within;
                greatest = λ o listed at_most. elim (cases_eq o r) [
                  | inl e ↦ subst (λ k. f.anchor k ≤ f.anchor r) (sym e) (omega arith)
                  | inr ne ↦ let most : f.anchor o ≤ f.anchor m = target.greatest o (listed_left f r o listed ne) at_most in omega arith
                ];
              }) in
              (ap f.held one ∙ held, ap f.holder one ∙ same_holder ∙ old.1)
        ]
        | inr higher ↦ (law.ready j ready).busy kind is m (with_r (λ at_most. higher))
      ])
  ready_after (goes n gone live held) j ready = ready_line (record f { status = set_at f.status n gone_status }) j (law.ready j ready) refl refl (law.ready j ready).busy

  -- those of merges
  merges_kept : {f' : TurnFacts} → Kept f f' → ((i : ℕ) → f'.line.state i ≡ ready_state → f'.line.kind i ≡ merge_kind → f.line.state i ≡ ready_state) → (j : ℕ) → f'.line.state j ≡ ready_state → f'.line.kind j ≡ merge_kind → IsReadyMerge f' s j
  merges_kept {f' = f'} k was j ready kind =
      let old = was j ready kind in
      let kind_was : f.line.kind j ≡ merge_kind = sym (k.lines.kind j old) ∙ kind in
      let is = law.merges j old kind_was in
      let same : f'.line.node j ≡ f.line.node j = k.lines.node j old in
      record {
        gone = ap f'.status same ∙ k.nodes.gone (f.line.node j) is.gone;
        anchor = ap f'.anchor same ∙ k.nodes.anchor (f.line.node j) (λ none. let two : 2 ≡ 0 = sym is.gone ∙ none in omega arith) ∙ is.anchor ∙ sym (k.lines.anchor j old);
        stamp = elim is.stamp [ inl none ↦ inl (ap f'.stamp same ∙ k.nodes.stamp (f.line.node j) ∙ none) | inr mine ↦ inr mine ];
        alone = λ i ready_i kind_i same_i.
            let old_i = was i ready_i kind_i in
            is.alone i old_i (sym (k.lines.kind i old_i) ∙ kind_i) (sym (k.lines.node i old_i) ∙ same_i ∙ same);
      }

  merges_after : {f' : TurnFacts} → OtherStep f f' → (j : ℕ) → f'.line.state j ≡ ready_state → f'.line.kind j ≡ merge_kind → IsReadyMerge f' s j
  merges_after (notes_kind i x empty) = merges_kept (kept (notes_kind i x empty)) (λ j ready kind. ready)
  merges_after (notes_node i x empty) = merges_kept (kept (notes_node i x empty)) (λ j ready kind. ready)
  merges_after (notes_anchor i x empty) = merges_kept (kept (notes_anchor i x empty)) (λ j ready kind. ready)
  merges_after (opens i empty) = merges_kept (kept (opens i empty)) (λ j ready kind.
      sym (other f.line.state i j open_state (not_opened f i j ready)) ∙ ready)
  merges_after (readies i is_open safe_state safe_anchor ripe) = λ j ready kind.
      let f' : TurnFacts = record f { line = record (f.line) { state = set_at f.line.state i ready_state } } in
      elim (cases_eq j i) [
        | inl e ↦ subst (λ k. f.line.kind k ≡ merge_kind → IsReadyMerge f' s k) (sym e) (λ kind_i.
            let is = ripe kind_i in
            record {
              gone = is.gone;
              anchor = is.anchor;
              stamp = elim (cases_eq (f.stamp (f.line.node i)) 0) [
                | inl none ↦ inl none
                | inr marked ↦ absurd (let no_way : false ≡ true = sym (law.marked (f.line.node i) marked).1 ∙ is.held in cc)
              ];
              alone = λ k ready_k kind_k same. elim (cases_eq k i) [
                | inl one ↦ one
                | inr ne ↦ absurd (is.alone k (sym (other f.line.state i k ready_state ne) ∙ ready_k) kind_k same)
              ];
            }) kind
        | inr ne ↦
            let old : f.line.state j ≡ ready_state = sym (other f.line.state i j ready_state ne) ∙ ready in
            let is = law.merges j old kind in
            record {
              gone = is.gone;
              anchor = is.anchor;
              stamp = is.stamp;
              alone = λ k ready_k kind_k same. elim (cases_eq k i) [
                | inl one ↦ absurd ((ripe (ap f.line.kind (sym one) ∙ kind_k)).alone j old kind (sym same ∙ ap f.line.node one))
                | inr apart ↦ is.alone k (sym (other f.line.state i k ready_state apart) ∙ ready_k) kind_k same
              ];
            }
      ]
  merges_after (drains_lines lines evicts) = merges_kept (kept (drains_lines lines evicts)) (λ j ready kind. ready)
  merges_after (locks p n listed live free) = merges_kept (kept (locks p n listed live free)) (λ j ready kind. ready)
  merges_after (claims p n free unheld) = merges_kept (kept (claims p n free unheld)) (λ j ready kind. ready)
  merges_after (unlocks p n worn held holds last owner) = merges_kept (kept (unlocks p n worn held holds last owner)) (λ j ready kind. ready)
  merges_after (anchors n k free held) = merges_kept (kept (anchors n k free held)) (λ j ready kind. ready)
  merges_after (lights n free held) = merges_kept (kept (lights n free held)) (λ j ready kind. ready)
  merges_after (links l n j new live held target same_holder is_open cover apart) = merges_kept (kept (links l n j new live held target same_holder is_open cover apart)) (λ j ready kind. ready)
  merges_after (unlinks l r j here_l here_r apart held held_r same_holder below before is_open cover) = merges_kept (kept (unlinks l r j here_l here_r apart held held_r same_holder below before is_open cover)) (λ j ready kind. ready)
  merges_after (goes n gone live held) = merges_kept (kept (goes n gone live held)) (λ j ready kind. ready)

  -- a merged node without a stamp has a ready line, or is held by its merge
  ready_merge_kept : {f' : TurnFacts} → KeptLines f f' → (n : ℕ) → HasReadyMerge f n → HasReadyMerge f' n
  ready_merge_kept kept n is = record {
    line = is.line;
    state = kept.state is.line is.state;
    kind = kept.kind is.line is.state ∙ is.kind;
    node = kept.node is.line is.state ∙ is.node;
  }

  owned_kept : {f' : TurnFacts} → Kept f f' → (n : ℕ) → f.status n ≡ gone_status → f.stamp n ≡ 0 → (f.held n ≡ true → f'.held n ≡ true) → HasReadyMerge f' n ⊎ (f'.held n ≡ true) ⊎ IsBeingFreed s n
  owned_kept k n gone bare held = elim (law.owned n gone bare) [
    | inl ready ↦ inl (ready_merge_kept k.lines n ready)
    | inr (inl is) ↦ inr (inl (held is))
    | inr (inr freed) ↦ inr (inr freed)
  ]

  owned_after : {f' : TurnFacts} → OtherStep f f' → (n : ℕ) → f'.status n ≡ gone_status → f'.stamp n ≡ 0 → HasReadyMerge f' n ⊎ (f'.held n ≡ true) ⊎ IsBeingFreed s n
  owned_after (notes_kind i x empty) n gone bare = owned_kept (kept (notes_kind i x empty)) n gone bare (λ is. is)
  owned_after (notes_node i x empty) n gone bare = owned_kept (kept (notes_node i x empty)) n gone bare (λ is. is)
  owned_after (notes_anchor i x empty) n gone bare = owned_kept (kept (notes_anchor i x empty)) n gone bare (λ is. is)
  owned_after (opens i empty) n gone bare = owned_kept (kept (opens i empty)) n gone bare (λ is. is)
  owned_after (readies i is_open safe_state safe_anchor ripe) n gone bare = owned_kept (kept (readies i is_open safe_state safe_anchor ripe)) n gone bare (λ is. is)
  owned_after (drains_lines lines evicts) n gone bare = owned_kept (kept (drains_lines lines evicts)) n gone bare (λ is. is)
  owned_after (locks p m listed live free) n gone bare = owned_kept (kept (locks p m listed live free)) n gone bare (locked_still m n)
  owned_after (claims p m free unheld) n gone bare = owned_kept (kept (claims p m free unheld)) n gone bare (locked_still m n)
  owned_after (unlocks p m worn held holds last owner) n gone bare = elim (cases_eq n m) [
    | inl e ↦ inl (ready_merge_kept (kept (unlocks p m worn held holds last owner)).lines n (subst (λ k. HasReadyMerge f k) (sym e) (owner (ap f.status (sym e) ∙ gone))))
    | inr ne ↦ owned_kept (kept (unlocks p m worn held holds last owner)) n gone bare (λ is. other f.held m n false ne ∙ is)
  ]
  owned_after (anchors m k free held) n gone bare = owned_kept (kept (anchors m k free held)) n gone bare (λ is. is)
  owned_after (lights m free held) n gone bare = elim (cases_eq n m) [
    | inl e ↦ absurd (let one : set_at f.status m live_status n ≡ live_status = here f.status m n live_status e in omega arith)
    | inr ne ↦ owned_kept (kept (lights m free held)) n (sym (other f.status m n live_status ne) ∙ gone) bare (λ is. is)
  ]
  owned_after (links l m j new live held target same_holder is_open cover apart) n gone bare = owned_kept (kept (links l m j new live held target same_holder is_open cover apart)) n gone bare (λ is. is)
  owned_after (unlinks l r j here_l here_r apart held held_r same_holder below before is_open cover) n gone bare = owned_kept (kept (unlinks l r j here_l here_r apart held held_r same_holder below before is_open cover)) n gone bare (λ is. is)
  owned_after (goes m unlisted_m live held) n gone bare = elim (cases_eq n m) [
    | inl e ↦ inr (inl (ap f.held e ∙ held))
    | inr ne ↦ owned_kept (kept (goes m unlisted_m live held)) n (sym (other f.status m n gone_status ne) ∙ gone) bare (λ is. is)
  ]

  -- the layer is nobody's but the turn's
  layers_stay : {f' : TurnFacts} → OtherStep f f' → (f'.layer ≡ f.layer) × (f'.safe_layer ≡ f.safe_layer)
  layers_stay (notes_kind j x empty) = (refl, refl)
  layers_stay (notes_node j x empty) = (refl, refl)
  layers_stay (notes_anchor j x empty) = (refl, refl)
  layers_stay (opens j empty) = (refl, refl)
  layers_stay (readies j is_open safe_state safe_anchor ripe) = (refl, refl)
  layers_stay (drains_lines lines evicts) = (refl, refl)
  layers_stay (locks p n listed live free) = (refl, refl)
  layers_stay (claims p n free unheld) = (refl, refl)
  layers_stay (unlocks p n worn held holds last owner) = (refl, refl)
  layers_stay (anchors n k free held) = (refl, refl)
  layers_stay (lights n free held) = (refl, refl)
  layers_stay (links l n j new live held target same_holder is_open cover apart) = (refl, refl)
  layers_stay (unlinks l r j here_l here_r apart held held_r same_holder below before is_open cover) = (refl, refl)
  layers_stay (goes n gone live held) = (refl, refl)

  durable_after : {f' : TurnFacts} → OtherStep f f' → IsDurableBut f'.layer f'.safe_layer s
  durable_after {f'} step = let same = layers_stay step in subst (λ safe. IsDurableBut f'.layer safe s) (sym same.1) (subst (λ layer. IsDurableBut layer f.safe_layer s) (sym same.0) law.durable)

  layer_after : {f' : TurnFacts} → OtherStep f f' → (key node : ℕ) → f'.layer key ≡ Some node → f.layer key ≡ Some node
  layer_after step key node is = sym (ap (λ layer. layer key) (layers_stay step).0) ∙ is

  merged_gone : (e : ReadyLine) → IsAtHand f e → e.kind ≡ merge_kind → f.status e.node ≡ gone_status
  merged_gone e is kind = ap f.status (sym is.node) ∙ (law.merges e.line is.state (is.kind ∙ kind)).gone

pub other_keeps : OtherKeeps
other_keeps c f f' s law step = record {
  stamped_by = law.stamped_by;
  durable = durable_after c f s law step;
  led = λ key node is. led_kept c f f' (kept c f s law step) s key node (law.led key node (layer_after c f s law step key node is));
  covered = covered_after c f s law step;
  apart = apart_after c f s law step;
  live = live_after c f s law step;
  marked = marked_after c f s law step;
  owned = owned_after c f s law step;
  ready = ready_after c f s law step;
  merges = merges_after c f s law step;
  sure = sure_kept c f f' (kept c f s law step) s (merged_gone c f s law) (λ n stamp. (law.marked n stamp).1) law.sure;
}

-- no other party makes a node free
pub others_free_none : OthersFreeNone
others_free_none f f' m (notes_kind j x empty) is = is
others_free_none f f' m (notes_node j x empty) is = is
others_free_none f f' m (notes_anchor j x empty) is = is
others_free_none f f' m (opens j empty) is = is
others_free_none f f' m (readies j is_open safe_state safe_anchor ripe) is = is
others_free_none f f' m (drains_lines lines evicts) is = is
others_free_none f f' m (locks p n listed live free) is = is
others_free_none f f' m (claims p n free unheld) is = is
others_free_none f f' m (unlocks p n worn held holds last owner) is = is
others_free_none f f' m (anchors n k free held) is = is
others_free_none f f' m (links l n j new live held target same_holder is_open cover apart) is = is
others_free_none f f' m (unlinks l r j here_l here_r apart held held_r same_holder below before is_open cover) is = is
others_free_none f f' m (lights n free held) is = elim (cases_eq m n) [
  | inl e ↦ λ none. absurd (is (ap f.status e ∙ free))
  | inr ne ↦ λ none. is (sym (other f.status n m live_status ne) ∙ none)
]
others_free_none f f' m (goes n gone live held) is = elim (cases_eq m n) [
  | inl e ↦ λ none. let two : set_at f.status n gone_status m ≡ gone_status = here f.status n m gone_status e in omega arith
  | inr ne ↦ λ none. is (sym (other f.status n m gone_status ne) ∙ none)
]
