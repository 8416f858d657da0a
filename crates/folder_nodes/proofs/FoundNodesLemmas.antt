-- Nodes that were found in folders.
use Rattle.std.proofs.Common.{◌≡◌, ◌<◌, ◌∙◌, ℕ, suc, List, [], ◌∷◌, ◌++◌, ap}
use Rattle.std.proofs.Common.{arith, refl, subst, sym}
use Rattle.std.proofs.Common.{drop, drop-cons, get_or, length, take}
use Rattle.std.specs.Prelude.{Result, Ok, Err, OnOk, All}
use Rattle.std.proofs.lemmas.Grind.{common_steps}
use Rattle.std.proofs.lemmas.List.{map-append, take-append-drop}
use Rattle.std.proofs.lemmas.List.Elements.{All-cons, All-nil}
use Rattle.disk.specs.declared.Disk.{Ghosts}
use Rattle.dir_disk.specs.declared.folder.DirDisk.{DirDisk}
use Rattle.dir_disk.specs.Disks.{IsLockedFolder, folder_incidents}
use Rattle.dir_disk.specs.Names.{file_path}
use Rattle.configurations.specs.{Configurations}
use Rattle.kv_types.specs.declared.Limits.{Limits}
use Rattle.node.specs.declared.node.Node.{Node}
use Rattle.node.specs.{disk_of, node_core}
use Rattle.lab.specs.declared.SimNode.{SimNode}
use Rattle.folder_nodes.specs.declared.fault.FolderError.{FolderError}
use Rattle.folder_nodes.specs.Finding.{sim_ids}
use Rattle.folder_nodes.specs.FoundNodes.{AddsNode, FolderAnswers, IsFoundIn}
use Rattle.folder_nodes.specs.Searches.{AreFound, IsFoundOver, SearchEnds}

-- what follows where a call answered
pub on_ok : {T E P Q : Type 0} (r : Result T E) → OnOk r P → (P → Q) → OnOk r Q
on_ok (Ok x) p follows = follows p
on_ok (Err e) p follows = tt

-- the ids of one node more
pub ids_more : {D : Type 0} {g : Ghosts D} (id : ℕ) (node : Node D g) →
    (old new : List (SimNode D g)) → AddsNode id node old new →
    sim_ids new ≡ sim_ids old ++ id ∷ []
ids_more id node old new adds =
    ap sim_ids adds.more ∙ map-append (λ sim. sim.id) old (adds.sim ∷ [])
    ∙ ap (λ (n : ℕ). sim_ids old ++ n ∷ []) adds.named

-- a list is what lies before a place, the element there, and what lies behind it
pub parts_at : (xs : List ℕ) (i : ℕ) (d : ℕ) → i < length xs →
    xs ≡ take i xs ++ get_or xs i d ∷ drop (suc i) xs
parts_at xs i d within = sym (take-append-drop i xs)
    ∙ ap (λ (behind : List ℕ). take i xs ++ behind) (drop-cons xs i d within)

module _ {D S : Type 0} {g : Ghosts D} (makes : S → ℕ → Result D FolderError → S → Type 0)
    (configs : Configurations) (limits : Limits) where
  -- the same nodes
  pub found_still : (old new : List (SimNode D g)) (first last : S) → new ≡ old →
      AreFound g makes configs limits old first last →
      AreFound g makes configs limits new first last
  found_still old new first last same found =
      subst (λ (sims : List (SimNode D g)). AreFound g makes configs limits sims first last)
      (sym same) found

  -- a node more that was found, behind others
  found_behind : (sims : List (SimNode D g)) (sim : SimNode D g) (disk : D) (first mid last : S) →
      AreFound g makes configs limits sims first mid → makes mid sim.id (Ok disk) last →
      IsFoundOver g makes configs limits disk sim →
      AreFound g makes configs limits (sims ++ sim ∷ []) first last
  found_behind [] sim disk first mid last found made here =
      (disk, last, subst (λ (s : S). makes s sim.id (Ok disk) last) found made, here, refl)
  found_behind (one ∷ sims) sim disk first mid last found made here = (
    found.0,
    found.1,
    found.2,
    found.3,
    found_behind sims sim disk found.1 mid last found.4 made here,
  )

  -- a node more, as a world takes it
  pub found_more : (id : ℕ) (disk : D) (node : Node D g) (old new : List (SimNode D g))
      (first mid last : S) → makes mid id (Ok disk) last → AddsNode id node old new →
      (node_core node).id ≡ id → SearchEnds g configs limits id disk (Ok node) →
      AreFound g makes configs limits old first mid →
      AreFound g makes configs limits new first last
  found_more id disk node old new first mid last made adds own ends found =
      let box = adds.up.0 in
      found_still (old ++ adds.sim ∷ []) new first last adds.more
      (found_behind old adds.sim disk first mid last found
      (subst (λ (n : ℕ). makes mid n (Ok disk) last) (sym adds.named) made) (record {
        node = box;
        up = adds.up.1;
        own = ap (λ (it : Node D g). (node_core it).id) adds.up.2 ∙ own ∙ sym adds.named;
        ends = subst (λ (n : ℕ). SearchEnds g configs limits n disk (Ok box.value))
            (sym adds.named)
            (subst (λ (it : Node D g). SearchEnds g configs limits id disk (Ok it))
            (sym adds.up.2) ends);
      }))

-- ---- in folders

-- what is noted of a folder says whether it is a locked one
locked_stays : {R : Type 0} (path : List ℕ) (old new : DirDisk R) →
    folder_incidents new ≡ folder_incidents old → new.failures.count ≡ old.failures.count →
    IsLockedFolder path old → IsLockedFolder path new
locked_stays path old new incidents count locked = grind (arith, common_steps)

module _ {R S : Type 0} {g : Ghosts (DirDisk R)}
    (incidents : (disk : DirDisk R) → g.incidents disk ≡ folder_incidents disk)
    (failures : (disk : DirDisk R) → g.failures disk ≡ disk.failures.count)
    (makes : S → ℕ → Result (DirDisk R) FolderError → S → Type 0) (path_of : S → List ℕ)
    (answers : (old new : S) (id : ℕ) (result : Result (DirDisk R) FolderError) →
    makes old id result new → (new ≡ old) × FolderAnswers (path_of old) id result)
    (configs : Configurations) (limits : Limits) where
  -- a node that was found on the disk of a folder was found in this folder
  found_in : (path : List ℕ) (sim : SimNode (DirDisk R) g) (disk : DirDisk R) →
      FolderAnswers path sim.id (Ok disk) → IsFoundOver g makes configs limits disk sim →
      IsFoundIn path limits sim
  found_in path sim disk made is =
      let new = disk_of is.node.value in
      record {
        path_is = made.0;
        node = is.node;
        up = is.up;
        own = is.own;
        limits_are = is.ends.limits_are;
        found = locked_stays (file_path path sim.id) disk new
            (sym (incidents new) ∙ is.ends.kept.fault ∙ incidents disk)
            (sym (failures new) ∙ is.ends.kept.count (λ no. no) ∙ failures disk) made.1;
      }

  pub all_found_in : (nodes : List (SimNode (DirDisk R) g)) (first last : S) →
      AreFound g makes configs limits nodes first last →
      All (IsFoundIn (path_of first) limits) nodes
  all_found_in [] first last found = All-nil (IsFoundIn (path_of first) limits)
  all_found_in (sim ∷ sims) first last found =
      let IsFound : SimNode (DirDisk R) g → Type 0 = IsFoundIn (path_of first) limits in
      let made = answers first found.1 sim.id (Ok found.0) found.2 in
      All-cons IsFound sim sims (found_in (path_of first) sim found.0 made.1 found.3)
      (subst (λ (s : S). All (IsFoundIn (path_of s) limits) sims) made.0
      (all_found_in sims found.1 last found.4))
