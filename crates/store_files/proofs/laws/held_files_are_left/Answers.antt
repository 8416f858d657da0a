use Rattle.disk.specs.{contents}
use Rattle.store_files.proofs.Appended.{left_now}
use Rattle.store_files.proofs.KeptFiles.{hold_in}
use Rattle.store_files.proofs.Meant.{meant_as_is, still_meant}
use Rattle.store_files.proofs.MeantMoments.{CrashLaws, meant_now}
use Rattle.store_files.proofs.laws.held_files_are_left.Goals as goal

pub returns : goal.returns
returns c =
    let durable = c.durable_file_is_left.ensures in
    let version = c.held_versions_are_left.ensures.left in
    let reads = c.reads_are_outcomes.ensures in
    let laws : CrashLaws = record { durable = durable; version = version; reads = reads } in
    record {
      held = record {
        reads = λ disk files list h. left_now disk files list h durable version (contents disk)
            (reads disk);
        crash = λ disk files list h. left_now disk files list h durable version;
        stays = λ old new files list same h. hold_in old new files list
            c.held_versions_are_left.ensures.same same h;
      };
      meant = record {
        reads = λ disk files list w. meant_now laws disk files list w (contents disk) (reads disk);
        crash = λ disk files list w. meant_now laws disk files list w;
        stays = λ old new files list same w. still_meant old files list w new same;
      };
      as_is = meant_as_is;
    }
