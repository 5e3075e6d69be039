use Rattle.image_recovery_law.proofs.SoundColumns.{columns_are_sound, columns_keep_maps}
use Rattle.image_recovery_law.proofs.FreshColumns.{fresh_has_sound_columns}
use Rattle.image_recovery_law.proofs.laws.image_law.Goals as goal

pub returns : goal.returns
returns c = record { sound = columns_are_sound; maps = columns_keep_maps; fresh = fresh_has_sound_columns }
