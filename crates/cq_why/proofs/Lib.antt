mod Puts
mod Told
