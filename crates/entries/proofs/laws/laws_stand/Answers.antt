use Rattle.entries.proofs.Adding.{amounts_are}
use Rattle.entries.proofs.Reading.{apart, reads_back}
use Rattle.entries.proofs.Returning.{settled_back, others_kept, others_zeroed}
use Rattle.entries.proofs.Voids.{voids_are}
use Rattle.entries.proofs.laws.laws_stand.Goals as goal

pub returns : goal.returns
returns c = record {
  adds = amounts_are;
  apart = apart;
  reads = reads_back;
  voids = voids_are;
  settled = settled_back;
  others = λ os bs n i j ns s laid from to other. others_kept os bs n i j s laid from to other ns;
  zeroed = others_zeroed;
}
