-- Nodes one after another: as they are created, and as they are left.
use Rattle.std.proofs.Common.{◌≡◌, ℕ, ◌+◌, ◌<◌, List, [], ◌∷◌, ◌++◌, length, map, take, get_or}
use Rattle.std.proofs.Common.{◌==◌, true, false, refl, sym, ap, ap₂, subst, ◌∙◌, arith}
use Rattle.std.proofs.lemmas.Bool.{cond_both, false≢true}
use Rattle.std.specs.Prelude.{All}
use Rattle.disk.specs.declared.disk.Disk.{Ghosts}
use Rattle.std.specs.List.{AllByRecursion, AllZip}
use Rattle.std.proofs.lemmas.List.{map-append, take_more}
use Rattle.std.proofs.lemmas.List.Elements.{All-push, recursion_from_All, All-from_recursion}
use Rattle.std.proofs.lemmas.Slice.Zip.{all_zipped_more}
use Rattle.kv_types.specs.declared.Limits.{Limits}
use Rattle.disk.specs.{Slots, fault_of}
use Rattle.configurations.specs.{Configurations, Lawful, at_epoch}
use Rattle.kv_types.specs.{AllDifferent, has}
use Rattle.chain_model.specs.{created}
use Rattle.chain_core.specs.{Machine}
use Rattle.lab.specs.declared.report.NodeReport.{NodeReport}
use Rattle.lab.specs.declared.sim_node.SimNode.{SimNode}
use Rattle.lab.specs.SimNodes.{IsUnarmed, StateHasLimits, StateRefines, disk_in, in_memory}
use Rattle.lab.specs.Disks.{IsNewDisk}
use Rattle.lab.specs.Worlds.{SimNodeRefines, IsCreated, AreCreated, IsLeft, AreLeft, RunRefines}
use Rattle.lab.specs.Worlds.{HaveLimits, IsReportOf, MemNode, empty_run}
use Rattle.lab.proofs.Disks.{with_disk, disk_here, disk_elsewhere}
use Rattle.lab.proofs.SimNodes.{ids_of}

-- one node more
pub created_next : (config ids : List ℕ) (limits : Limits) (i x : ℕ) (sims now : List MemNode)
    (sim : MemNode) → i < length ids → x ≡ get_or ids i x → sim.id ≡ x → IsCreated config sim →
    StateHasLimits sim.state limits → now ≡ sims ++ sim ∷ [] →
    AreCreated config (take i ids) limits sims → AreCreated config (take (i + 1) ids) limits now
created_next config ids limits i x sims now sim within at id is has whole are = record {
  nodes = ap (map (λ (s : MemNode). s.id)) whole
      ∙ map-append (λ (s : MemNode). s.id) sims (sim ∷ [])
      ∙ ap₂ (λ (l : List ℕ) (y : ℕ). l ++ y ∷ []) are.nodes (id ∙ at)
      ∙ sym (take_more ids i x within);
  each = subst (λ (l : List MemNode). All (IsCreated config) l) (sym whole)
      (All-push (IsCreated config) sims sim are.each is);
  limits = subst (λ (l : List MemNode). HaveLimits l limits) (sym whole)
      (All-push (λ (s : MemNode). StateHasLimits s.state limits) sims sim are.limits has);
}

-- of a joined list, each of both
front : {A : Type 0} (P : A → Type 0) (xs ys : List A) → AllByRecursion P (xs ++ ys) →
    AllByRecursion P xs
front P [] ys all = tt
front P (x ∷ xs) ys all = (all.0, front P xs ys all.1)

back : {A : Type 0} (P : A → Type 0) (xs ys : List A) → AllByRecursion P (xs ++ ys) →
    AllByRecursion P ys
back P [] ys all = all
back P (x ∷ xs) ys all = back P xs ys all.1

-- what is left of one node more
pub left_next : (sims : List MemNode) (nodes now : List NodeReport) (sim : MemNode)
    (node : NodeReport) → IsReportOf sim node →
    ((n : Machine) (own : Slots) → StateRefines in_memory.is_honest in_memory.state sim.state sim.id
    n →
    disk_in sim.state ≡ own →
    IsLeft n own node) → now ≡ nodes ++ node ∷ [] →
    AreLeft sims nodes → AreLeft (sims ++ sim ∷ []) now
left_next sims nodes now sim node own left whole are = record {
  own = subst (λ (l : List NodeReport). AllZip IsReportOf (sims ++ sim ∷ []) l) (sym whole)
      (all_zipped_more IsReportOf sims nodes sim node are.own own);
  each = λ machines disks all.
      let Refined : MemNode → Type 0 = SimNodeRefines machines disks in
      let by = recursion_from_All Refined (sims ++ sim ∷ []) all in
      let before = All-from_recursion Refined sims (front Refined sims (sim ∷ []) by) in
      let last = (back Refined sims (sim ∷ []) by).0 in
      let is_left : IsLeft (machines node.id) (disks node.id) node =
      subst (λ (y : ℕ). IsLeft (machines y) (disks y) node) (sym own.id)
      (left (machines sim.id) (disks sim.id) last.is last.disk) in
      subst (λ (l : List NodeReport). All (λ n. IsLeft (machines n.id) (disks n.id) n) l)
      (sym whole) (All-push (λ n. IsLeft (machines n.id) (disks n.id) n) nodes node
      (are.each machines disks before) is_left);
}

-- reports have the ids of their nodes
pub reported_ids : (sims : List MemNode) (nodes : List NodeReport) → AllZip IsReportOf sims nodes →
    map (λ (n : NodeReport). n.id) nodes ≡ map (λ (s : MemNode). s.id) sims
reported_ids [] [] own = refl
reported_ids [] (node ∷ nodes) own = absurd own
reported_ids (sim ∷ sims) [] own = absurd own
reported_ids (sim ∷ sims) (node ∷ nodes) own =
    ap₂ (λ (y : ℕ) (l : List ℕ). y ∷ l) own.0.id (reported_ids sims nodes own.1)

-- ---- the disks that nodes begin with

module _ {D : Type 0} {g : Ghosts D} where
  -- the disk of the node with this id, and else this one
  abbrev pub disks_of : D → List (SimNode D g) → ℕ → D
  disks_of d [] x = d
  disks_of d (s ∷ sims) x = with_disk (disks_of d sims) s.id (disk_in s.state) x

  -- what holds of this one and of those of nodes that were just created holds of each
  each_of : (P : D → Type 0) (config : List ℕ) (d : D) → P d → (sims : List (SimNode D g)) →
      ((s : SimNode D g) → IsCreated config s → P (disk_in s.state)) →
      AllByRecursion (IsCreated config) sims → (x : ℕ) → P (disks_of d sims x)
  each_of P config d own [] has all x = own
  each_of P config d own (s ∷ sims) has all x =
      cond_both (x == s.id) (disk_in s.state) (disks_of d sims x) P
      (λ same. has s all.0) (λ other. each_of P config d own sims has all.1 x)

  -- nodes with other ids keep theirs
  keep_apart : (machines : ℕ → Machine) (disks : ℕ → D) (x : ℕ) (own : D)
      (sims : List (SimNode D g)) → has (ids_of sims) x ≡ false →
      AllByRecursion (SimNodeRefines machines disks) sims →
      AllByRecursion (SimNodeRefines machines (with_disk disks x own)) sims
  keep_apart machines disks x own [] none all = tt
  keep_apart machines disks x own (s ∷ sims) none all =
      cond_both (s.id == x) true (has (ids_of sims) x)
      (λ b. b ≡ false → AllByRecursion (SimNodeRefines machines (with_disk disks x own)) (s ∷ sims))
      (λ same e. absurd (false≢true (sym e)))
      (λ other e. (
        record {
          is = all.0.is;
          disk = all.0.disk ∙ sym (disk_elsewhere disks x own s.id other);
        },
        keep_apart machines disks x own sims e all.1,
      )) none

  -- each has its own
  all_have : (config : List ℕ) (d : D) (sims : List (SimNode D g)) → AllDifferent (ids_of sims) →
      AllByRecursion (IsCreated config) sims →
      AllByRecursion (SimNodeRefines (λ x. created config) (disks_of d sims)) sims
  all_have config d [] differ all = tt
  all_have config d (s ∷ sims) differ all = (
    record {
      is = all.0.is;
      disk = sym (disk_here (disks_of d sims) s.id (disk_in s.state));
    },
    keep_apart (λ x. created config) (disks_of d sims) s.id (disk_in s.state) sims differ.0
        (all_have config d sims differ.1 all.1),
  )

  -- a world whose nodes were just created has made the run of no events
  pub begun : (cs : Configurations) (limits : Limits) (sims : List (SimNode D g)) → Lawful cs →
      AreCreated (at_epoch cs 0) (at_epoch cs 0) limits sims → RunRefines sims [] (empty_run cs)
  begun cs limits [] lawful are = absurd (omega (arith, lawful.nodes, ap length are.nodes))
  begun cs limits (s ∷ others) lawful are =
      let sims = s ∷ others in
      let d = disk_in s.state in
      let config = at_epoch cs 0 in
      let all = recursion_from_All (IsCreated config) sims are.each in
      let disks = disks_of d sims in
      let none = each_of (λ (own : D). g.failures own ≡ 0) config d all.0.count sims
      (λ s is. is.count) all in
      record {
        lawful = lawful;
        trace = record { one_each = refl; fits = tt; traced = refl };
        frames = tt;
        sent = refl;
        nodes = are.nodes;
        disks = disks;
        after = record {
          first = disks;
          begun = none;
          occurred = each_of (IsNewDisk g) config d all.0.occurred sims (λ s is. is.occurred) all;
          follow = refl;
        };
        few = λ x. omega (arith, none x);
        unarmed = each_of (IsUnarmed g) config d (ap fault_of all.0.occurred.occurred) sims
            (λ s is. ap fault_of is.occurred.occurred) all;
        each = All-from_recursion (SimNodeRefines (λ x. created config) disks) sims
            (all_have config d sims
            (subst (λ (c : List ℕ). AllDifferent c) (sym are.nodes) lawful.different) all);
      }
