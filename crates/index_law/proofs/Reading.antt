-- What a party knows that takes no lock, after its own step, and that its answer is legal.
use Rattle.std.proofs.Common.{◌≡◌, ℕ, ◌<◌, ◌≤◌, length, refl, sym, ap, ◌∙◌, subst, arith}
use Rattle.std.specs.Prelude.{true, false, Option, Some, None, IfSome}
use Rattle.pm_words.specs.declared.layout.Layout.{Layout}
use Rattle.pm_words.specs.declared.action.Action.{Action}
use Rattle.pm_words.specs.Offsets.{next_offset}
use Rattle.version_lock.specs.Versions.{generation_of, IsFree}
use Rattle.cat_history.specs.Maps.{Map, at}
use Rattle.data_node.specs.Spots.{Spot}
use Rattle.call_stages.specs.declared.once.Once.{Once}
use Rattle.call_stages.specs.declared.once.Placed.{Placed}
use Rattle.call_stages.specs.Stages.{Stage, Held, Known, Knows, Sight, Sees, no_sight}
use Rattle.call_stages.specs.Kinds.{Read, views, views_live, views_word, views_next, dates, notes, finds, confirms, wavers}
use Rattle.index_law.specs.Facts.{Facts, IsListed, map_now, range_of}
use Rattle.index_law.specs.Lawful.{IsList, AreLive, AreKnown, AreSettled, IsTime, HasWriteAt, IsRead, Stands, Sure, SureReads}
use Rattle.index_law.specs.Laws.{Allowed, loads_clock, loads_word, loads_status, IsLegal}
use Rattle.index_law.proofs.Maps.{after-whole}
use Rattle.index_law.proofs.Moves.{ReadGave}
use Rattle.index_law.proofs.Switch.{between_inside}

-- What was seen of a node stands once its status is seen, another word of it, or one of the node that it leads to.
module _ (f : Facts) (n : ℕ) where
  pub stands_none : Stands f n no_sight
  stands_none = record {
    listed = λ no. absurd (let none : false ≡ true = no in cc);
    sees = record { seen = tt; leads = λ ne. absurd (ne refl); beyond = λ ne. absurd (ne refl) };
    leads = λ ne. absurd (ne refl);
  }

  pub stands_live : (k : Sight) → IsListed f n → Stands f n k → Stands f n (record k { live = true })
  stands_live k listed was = record {
    listed = λ _. listed;
    sees = record { seen = was.sees.seen; leads = was.sees.leads; beyond = was.sees.beyond };
    leads = was.leads;
  }

  pub stands_word : (offset x : ℕ) (k k' : Sight) → k'.live ≡ k.live → k'.next ≡ k.next → ((s t : Spot) → Sees k s t → s offset ≡ x → Sees k' s t)
      → x ≡ f.now n offset → Stands f n k → Stands f n k'
  stands_word offset x k k' live next learnt e was = record {
    listed = λ is. was.listed (sym live ∙ is);
    sees = learnt (f.now n) (f.now (f.now n next_offset)) was.sees (sym e);
    leads = λ ne. was.leads (λ z. ne (next ∙ z));
  }

  pub stands_next : (m offset x : ℕ) (k k' : Sight) → k.live ≡ true → ((s t : Spot) → Sees k s t → s next_offset ≡ m) → ((s t : Spot) → Sees k s t → t offset ≡ x → Sees k' s t)
      → x ≡ f.now m offset → Stands f n k → Stands f n k'
  stands_next m offset x k k' live leads learnt e was =
      let to : f.now n next_offset ≡ m = leads (f.now n) (f.now (f.now n next_offset)) was.sees in
      record {
        listed = λ _. was.listed live;
        sees = learnt (f.now n) (f.now (f.now n next_offset)) was.sees (ap (λ (j : ℕ). f.now j offset) to ∙ sym e);
        leads = λ _. was.listed live;
      }

-- a reader that has read nothing yet sees more
sees_on : (l : Layout) (g : ℕ) (f : Facts) (since n v : ℕ) (k k' : Sight) → (f.version n ≡ v → Stands f n k → Stands f n k') → SureReads l g f since n v k None → SureReads l g f since n v k' None
sees_on l g f since n v k k' more knows = record {
  here = knows.here;
  known = knows.known;
  free = knows.free;
  seen = knows.seen;
  reader = tt;
  stands = λ same. more same (knows.stands same);
  read = λ same. tt;
}

-- and one that has read some words reads more
read_on : (l : Layout) (g : ℕ) (f : Facts) (since n v : ℕ) (k : Sight) (h : Held) (known : Known) (old : Option (Option ℕ)) → (IsRead l f since n h → Knows h.name known (f.now n))
    → (IsRead l f since n h → IfSome old (λ was. at (map_now f) h.name ≡ was)) → SureReads l g f since n v k (Some h) → SureReads l g f since n v k (Some (record h { known = known; old = old }))
read_on l g f since n v k h known old more has knows = record {
  here = knows.here;
  known = knows.known;
  free = knows.free;
  seen = knows.seen;
  reader = record { named = knows.reader.named; unlimited = knows.reader.unlimited };
  stands = knows.stands;
  read = λ same.
      let was = knows.read same in
      record { listed = was.listed; named = was.named; inside = was.inside; settled = was.settled; knows = more was; time = was.time; old = has was };
}

module _ {l : Layout} {g : ℕ} where
  -- its action is one that a party may do
  pub read_allowed : {s : Stage} {a : Action} {x : ℕ} {t : Stage} {r : Option (Once Placed)} → Read l g s a x t r → Allowed l s a
  read_allowed (views loose here free) = loads_word (here, omega arith)
  read_allowed (views_live here is) = loads_status here
  read_allowed (views_word has positive live next learnt) = loads_word has
  read_allowed (views_next has low high ne live live' next leads learnt) = loads_word has
  read_allowed (dates named live between kept) = loads_clock
  read_allowed (notes has positive learnt) = loads_word has
  read_allowed (finds has positive learnt decided) = loads_word has
  read_allowed (confirms here same unplaced unlimited time old) = loads_word (here, omega arith)
  read_allowed (wavers here other) = loads_word (here, omega arith)

  module _ (f : Facts) (caller index since : ℕ) where
    pub read_mine : since ≤ length f.history → AreKnown l g f → IsList l f → AreLive l g f → AreSettled l g f → {s : Stage} {a : Action} {x : ℕ} {t : Stage} {r : Option (Once Placed)}
        → (k : Read l g s a x t r) → ReadGave k f → Sure l g f caller index since s → Sure l g f caller index since t
    read_mine begun known list lives settled (views {n = n} loose here free) e knows = record {
      here = here;
      known = subst (λ (v : ℕ). generation_of v ≤ g) (sym e) (known n here);
      free = free;
      seen = omega (arith, e);
      reader = tt;
      stands = λ is. record {
        listed = λ no. absurd (let none : false ≡ true = no in cc);
        sees = record { seen = tt; leads = λ ne. absurd (ne refl); beyond = λ ne. absurd (ne refl) };
        leads = λ ne. absurd (ne refl);
      };
      read = λ is. tt;
    }
    read_mine begun known list lives settled (views_live {n = n} {v = v} {k = k} here is) e knows =
        sees_on l g f since n v k (record k { live = true }) (λ same. stands_live f n k (lives.listed n here (sym e ∙ is) (subst (λ (u : ℕ). IsFree u g) (sym same) knows.free))) knows
    read_mine begun known list lives settled (views_word {n = n} {v = v} {x = x} {offset = offset} {k = k} {k' = k'} has positive live next learnt) e knows =
        sees_on l g f since n v k k' (λ same. stands_word f n offset x k k' live next learnt e) knows
    read_mine begun known list lives settled (views_next {n = n} {v = v} {m = m} {x = x} {offset = offset} {k = k} {k' = k'} has low high ne live live' next leads learnt) e knows =
        sees_on l g f since n v k k' (λ same. stands_next f n m offset x k k' live leads learnt e) knows
    read_mine begun known list lives settled (dates {n = n} {x = x} {name = name} named live between kept) e knows = record {
      here = knows.here;
      known = knows.known;
      free = knows.free;
      seen = knows.seen;
      reader = record { named = named; unlimited = refl };
      stands = λ same.
          let was = knows.stands same in
          record {
            listed = λ _. was.listed live;
            sees = kept (f.now n) (f.now (f.now n next_offset)) was.sees;
            leads = λ _. was.listed live;
          };
      read = λ same.
          let was = knows.stands same in
          record {
            listed = was.listed live;
            named = named;
            inside = between_inside l f list n name (was.listed live) (between (f.now n) (f.now (f.now n next_offset)) was.sees);
            settled = settled n (was.listed live) (subst (λ (u : ℕ). IsFree u g) (sym same) knows.free);
            knows = record { seen = tt; left = tt };
            time = record {
              later = omega (arith, e);
              within = omega (arith, e);
              below = tt;
              same = λ place late there key inside. ap (λ (m : Map). at m key) (after-whole f.base f.history place (omega (arith, e)));
            };
            old = tt;
          };
    }
    read_mine begun known list lives settled (notes {n = n} {v = v} {k = k} {h = h} {known = more} has positive learnt) e knows =
        read_on l g f since n v k h more h.old (λ was. learnt (f.now n) was.settled.means.tidy was.knows (sym e)) (λ was. was.old) knows
    read_mine begun known list lives settled (finds {n = n} {v = v} {k = k} {h = h} {known = more} {old = old} has positive learnt decided) e knows =
        read_on l g f since n v k h more (Some old) (λ was. learnt (f.now n) was.settled.means.tidy was.knows (sym e))
        (λ was. decided (range_of l f n) (f.now n) (map_now f) was.inside was.knows (sym e) was.settled.means) knows
    read_mine begun known list lives settled (confirms here same unplaced unlimited time old) e knows = tt
    read_mine begun known list lives settled (wavers here other) e knows = tt

    -- its answer is legal
    pub read_legal : {s : Stage} {a : Action} {x : ℕ} {t : Stage} {r : Option (Once Placed)} → (k : Read l g s a x t r) → ReadGave k f → Sure l g f caller index since s
        → IsLegal l g f caller index since s r
    read_legal (views loose here free) e knows = tt
    read_legal (views_live here is) e knows = tt
    read_legal (views_word has positive live next learnt) e knows = tt
    read_legal (views_next has low high ne live live' next leads learnt) e knows = tt
    read_legal (dates named live between kept) e knows = tt
    read_legal (notes has positive learnt) e knows = tt
    read_legal (finds has positive learnt decided) e knows = tt
    read_legal (confirms {n = n} {clock = clock} {h = h} {old = old} here same unplaced unlimited time old_known) e knows =
        let was = knows.read (sym e ∙ same) in
        let told = subst (λ (c : Option ℕ). IfSome c (IsTime (range_of l f n) f.base f.history since None)) time was.time in
        record {
          later = told.later;
          within = told.within;
          below = subst (λ (m : Option ℕ). IfSome m (λ most. since < most)) (sym unlimited) tt;
          old = sym (told.same clock (omega arith) told.within h.name was.inside ∙ subst (λ (o : Option (Option ℕ)). IfSome o (λ known. at (map_now f) h.name ≡ known)) old_known was.old);
          write = subst (λ (p : Option ℕ). IfSome p (λ q. (clock ≡ q) × HasWriteAt f.history caller index h.name q)) (sym unplaced) tt;
        }
    read_legal (wavers {h = None} here other) e knows = (sym e, other)
    read_legal (wavers {h = Some h} here other) e knows = (sym e, other)
