use Rattle.day_journal.proofs.FolderParts.{of_known}
use Rattle.std.proofs.Common.{subst, sym}
use Rattle.std.specs.Prelude.{IfSome}
use Rattle.day_journal.specs.Folders.{IsFolderOf}
use Rattle.day_journal.proofs.file_disk.FileDiskDisk.begin.Goals as goal

pub sync_folder-synced-requires : goal.sync_folder-synced-requires
sync_folder-synced-requires g c =
    let named = rw c.in_ok-counted.ensures.value at c.open-opened.ensures.file_name in
    record {
      folder = subst (λ known. IfSome known (λ path. IsFolderOf c.folder_of.result.now path)) (sym c.try_lock-locked.ensures.file_name)
          (of_known (g.C.FileCalls.file_name c.open-opened.new.self) c.folder_of.result.now c.args.name.now c.folder_of.ensures named);
    }
