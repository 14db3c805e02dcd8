use Rattle.lives.proofs.Examples.{such_a_life_is_led_lem}
use Rattle.lives.proofs.laws.such_a_life_is_led.Goals as goal

pub returns : goal.returns
returns c = such_a_life_is_led_lem
