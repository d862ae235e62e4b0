mod Faultless
mod Forming
mod Sounding
