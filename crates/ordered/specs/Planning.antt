-- The writes of a transaction in a partition are linked, in the engine's tables and in the machine's plan alike.
use Prim.Native.Nat.{ℕ, zero, suc, ◌+◌, ◌-◌, ◌%◌, ◌≤◌, ◌<◌}
use Rattle.std.specs.Prelude.{true, false, ◌≡◌, List, ltb}
use Rattle.std.proofs.Common.{sym, ap, ◌∙◌, subst, arith, lt-ltb, le-ltb, eq-eqb, ne_eqb}
use Rattle.std.proofs.Math.Decide.{ℕ_discrete}
use Rattle.packed.specs.declared.Transaction.{Transaction}
use Rattle.counters.specs.declared.Outcome.{Outcome}
use Rattle.engine.specs.Place.{Plans, meaning_at, position_of, write_of, written_in}
use Rattle.engine.specs.Place.{place_below}
use Rattle.engine.specs.declared.State.{State}
use Rattle.order.specs.Batch as order
use Rattle.order.specs.Plan as plan
use Rattle.order.specs.TableLaws.{choose_yes, choose_no}
use Rattle.ordered.specs.Describing.{Describes}
use Rattle.ordered.specs.Linking.{NoneProduced, link_is, link_unproduced}
use Rattle.ordered.specs.Relation.{PlanIs, Fixed}

-- the plan's tables, with nothing produced
pub record Planning (n records : ℕ) (plans : Plans) (p : plan.Plan) : Type 0 where
  pub plan_is : PlanIs n records plans.newest plans.versions p
  pub none_produced : NoneProduced n plans.versions

module _ (B : order.Batch ℕ Outcome) (o : State) (log stored : List ℕ) (d : Describes B o log stored)
    (s : State) (fixed : Fixed o s) (p i : ℕ) (below : i < o.size) (plans : Plans) (q : plan.Plan)
    (planning : Planning o.size o.records plans q) where
  abbrev t : Transaction
  t = meaning_at o log i

  -- the writes below a number, in the partition, are linked
  placed_below : (k : ℕ) → k ≤ t.writecount
      → Planning o.size o.records (place_below k s p i t plans) (plan.link_writes B q p i k)
  unfolding plan.link_writes
  placed_below zero within = planning
  placed_below (suc k) within = go (ℕ_discrete (B.partition_of (B.write_record i k)) p) (placed_below k (omega
      (arith, within)))
    where
      writes : B.write_record i k ≡ write_of t k
      writes = d.writes_are i k below (omega (arith, within))

      partition : B.partition_of (B.write_record i k) ≡ write_of t k % s.partitions
      partition = d.partition_is (B.write_record i k) ∙ (rw (writes, fixed.partitions_fixed))

      declared : ltb k t.writecount ≡ true
      declared = lt-ltb k t.writecount (omega (arith, within))

      go : Dec (B.partition_of (B.write_record i k) ≡ p)
          → Planning o.size o.records (place_below k s p i t plans) (plan.link_writes B q p i k)
          → Planning o.size o.records (place_below (suc k) s p i t plans) (plan.link_writes B q p i (suc k))
      go (yes here) earlier =
          let written : written_in s.partitions p t k ≡ true =
          rw (declared, eq-eqb (write_of t k % s.partitions) p (sym partition ∙ here)) in
          let four : k < 4 = omega (arith, within, (d.declared i below).few_writes) in
          let there : write_of t k < o.records = (d.declared i below).writes_exist k (omega (arith, within)) in
          let at : position_of s i ≡ plan.position B i = ap (λ x. x.0 + i) fixed.next_fixed ∙ (rw d.first_is) in
          let before = place_below k s p i t plans in
          let linked = plan.link_writes B q p i k in
          rw (
            written,
            choose_yes (ℕ_discrete (B.partition_of (B.write_record i k)) p) (plan.link_write B linked i k)
                linked here,
          )
          (record {
            plan_is =
                link_is B o.size o.records d.no_end_is d.numbers.few_transactions before.newest
                before.versions linked earlier.plan_is i k (write_of t k) (position_of s i)
                below four there writes at;
            none_produced =
                link_unproduced B o.size o.records d.no_end_is d.numbers.few_transactions before.newest
                before.versions linked earlier.plan_is i k (write_of t k) (position_of s i)
                below four there writes at
                earlier.none_produced;
          })
      go (no elsewhere) earlier =
          let unwritten : written_in s.partitions p t k ≡ false =
          rw (declared, ne_eqb (write_of t k % s.partitions) p (λ same. elsewhere (partition ∙ same))) in
          let linked = plan.link_writes B q p i k in
          rw (
            unwritten,
            choose_no (ℕ_discrete (B.partition_of (B.write_record i k)) p) (plan.link_write B linked i k)
                linked elsewhere,
          )
          earlier

  -- past the write count nothing is linked
  none_past : (more : ℕ) → place_below (more + t.writecount) s p i t plans ≡ place_below t.writecount s p i t plans
  none_past zero = let same : 0 + t.writecount ≡ t.writecount = omega arith in rw same
  none_past (suc more) =
      let same : suc more + t.writecount ≡ suc (more + t.writecount) = omega arith in
      let past : ltb (more + t.writecount) t.writecount ≡ false =
      le-ltb (more + t.writecount) t.writecount (omega arith) in
      rw (same, past) (none_past more)

  pub placed_all : Planning o.size o.records (place_below 4 s p i t plans) (plan.link_writes B q p i
      (B.write_count i))
  placed_all =
      let few = (d.declared i below).few_writes in
      let all : 4 - t.writecount + t.writecount ≡ 4 = omega (arith, few) in
      let same : place_below 4 s p i t plans ≡ place_below t.writecount s p i t plans =
      subst (λ (k : ℕ). place_below k s p i t plans ≡ place_below t.writecount s p i t plans) all
      (none_past (4 - t.writecount)) in
      rw (same, d.writes_count i below) (placed_below t.writecount (omega arith))
