use Rattle.shelf_core.proofs.FileLemmas.{same_file-Decides, Contains-found, found-Contains, bytes_of-push}
use Rattle.shelf_core.proofs.files.law_files.Goals as goal

pub returns : goal.returns
returns c = record {
  names = same_file-Decides;
  finds = λ files distinct name bytes. (Contains-found name bytes files, λ h. found-Contains name bytes files distinct h.0 h.1 h.2);
  adds = bytes_of-push;
}
