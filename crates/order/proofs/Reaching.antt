-- What an open store can be brought to by offers that are all accepted, and at what price.
use Rattle.std.specs.Prelude.{◌≡◌, List, [], ◌∷◌, ◌++◌, ℕ, suc, ◌+◌, ◌≤◌, ◌<◌, length}
use Rattle.std.proofs.Common.{arith, length-append}
use Rattle.order.specs.Batch.{Batch, Proper}
use Rattle.order.specs.Machine.{State, Step, Answer, Accepted, AllComplete}
use Rattle.order.specs.Store.{Offer, step, accepted, Store, NotAbandon, AllAccepted, no_offer, then_offer}
use Rattle.order.specs.Store.{CanBeSealed}
use Rattle.order.specs.Invariant.{Sound}
use Rattle.order.specs.Interface.{IsAccepted, Meets}
use Rattle.order.proofs.Safety.{step_keeps}
use Rattle.order.proofs.Remaining.{remaining}

module _ {X O C : Type 0} {S : Store X O C} where
  joined : {c d z : C} {os ps : List Offer} → AllAccepted S c os d → AllAccepted S d ps z → AllAccepted S c (os ++ ps) z
  joined no_offer y = y
  joined (then_offer a x xs) y = then_offer a x (joined xs y)

module _ {X O C : Type 0} {B : Batch X O} {S : Store X O C} (meets : Meets B S) where
  -- An open store, and the state of the machine that it is in.
  pub record Standing : Type 0 where
    pub store : C
    pub state : State X O
    pub is_open : meets.Open store state
    pub sound : Sound B state

module _ {X O C : Type 0} {B : Batch X O} {S : Store X O C} {meets : Meets B S} where
  -- From now a list of offers, all accepted, leads to a goal. Its length is paid for by what is left to do, and by an
  -- extra.
  pub record Reaches (now : Standing meets) (extra : ℕ) (Goal : State X O → Type 0) : Type 0 where
    pub end : Standing meets
    pub offers : List Offer
    pub way : AllAccepted S now.store offers end.store
    pub goal : Goal end.state
    pub price : length offers + remaining B end.state ≤ remaining B now.state + extra

  pub stay : {now : Standing meets} {Goal : State X O → Type 0} (extra : ℕ) → Goal now.state → Reaches now extra Goal
  stay {now} extra g = record { end = now; offers = []; way = no_offer; goal = g; price = omega arith }

  pub and_then : {now : Standing meets} {G H : State X O → Type 0} (a b : ℕ) (x : Reaches now a G)
      → Reaches x.end b H → Reaches now (a + b) H
  and_then a b x y = record {
    end = y.end;
    offers = x.offers ++ y.offers;
    way = joined x.way y.way;
    goal = y.goal;
    price = rw length-append (omega (arith, x.price, y.price));
  }

  -- One accepted step.
  pub record Taken (now : Standing meets) (l : Step) : Type 0 where
    pub after : Standing meets
    pub answer : Answer
    pub took : S.offer now.store (step l) ≡ accepted answer after.store
    pub made : Accepted B now.state l answer after.state

  pub taking : Proper B → (now : Standing meets) (l : Step) → IsAccepted (S.offer now.store (step l)) → Taken now l
  taking ok now l a =
      let t = meets.follows now.store a.1 now.state l a.0 now.is_open now.sound a.2 in
      record {
        after = record { store = a.1; state = t.0; is_open = t.2; sound = step_keeps B ok t.1 now.sound };
        answer = a.0;
        took = a.2;
        made = t.1;
      }

  -- A step, and what is reached from there; the step and the rest are paid for together.
  pub step_on : {now : Standing meets} {l : Step} {G : State X O → Type 0} (extra more : ℕ) → NotAbandon (step l)
      → (t : Taken now l) → suc (remaining B t.after.state) + more ≤ remaining B now.state + extra
      → Reaches t.after more G → Reaches now extra G
  step_on {l = l} extra more plain t h x = record {
    end = x.end;
    offers = step l ∷ x.offers;
    way = then_offer plain t.took x.way;
    goal = x.goal;
    price = omega (arith, x.price);
  }

  -- Once every transaction is Complete, the seal is one offer more.
  pub seal_it : {now : Standing meets} (extra bound : ℕ) → remaining B now.state + extra < bound
      → Reaches now extra (AllComplete B) → CanBeSealed S bound now.store
  seal_it extra bound h x =
      let end : Standing meets = x.end in
      let sealing = meets.can_seal end.store end.state end.is_open end.sound x.goal in
      record {
        offers = x.offers;
        sealed = sealing.1;
        all_accepted_lem = joined x.way (then_offer tt sealing.2 no_offer);
        within_bound = rw length-append (omega (arith, x.price));
      }
