mod Broadcasts
