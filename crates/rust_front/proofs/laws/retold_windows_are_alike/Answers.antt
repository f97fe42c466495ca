use Rattle.rust_front.proofs.Windows.{retold_windows}
use Rattle.rust_front.proofs.laws.retold_windows_are_alike.Goals as goal

pub returns : goal.returns
returns c e before old new behind t u v h = retold_windows e before old new behind t u v h
